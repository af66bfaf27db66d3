-- The tags of lines.
use Rattle.std.proofs.Common.{◌≡◌, ◌<◌, ◌+◌, ◌^◌, ◌∷◌, ℕ, zero, suc, List, [], length, map, refl, ap, ◌∙◌}
use Rattle.std.specs.Prelude.{◌/◌, ◌%◌}
use Rattle.std.proofs.lemmas.Nat.{div-mul-add, mod-mul-add}
use Rattle.md_history.specs.declared.entries.Entry.{Entry}
use Rattle.md_many_attempts.specs.Meaning.{Meaning}
use Rattle.md_many_attempts.specs.Tags.{tag_of}
use Rattle.md_many.specs.Tags.{tags_after}
use Rattle.md_many_attempts.specs.Lines.{AreLines}

-- a tag's caller and line
pub caller_of_tag : (caller line : ℕ) → line < 2 ^ 32 → tag_of caller line / 2 ^ 32 ≡ caller
caller_of_tag caller line small = div-mul-add caller (2 ^ 32) line small

pub line_of_tag : (caller line : ℕ) → line < 2 ^ 32 → tag_of caller line % 2 ^ 32 ≡ line
line_of_tag caller line small = mod-mul-add caller (2 ^ 32) line small

-- so many tags
pub length-tags_after : (caller n count : ℕ) → length (tags_after caller n count) ≡ count
length-tags_after caller n zero = refl
length-tags_after caller n (suc count) = ap suc (length-tags_after caller (n + 1) count)

module _ {B R : Type 0} (m : Meaning B R) (caller : ℕ) where
  -- lines have their tags
  pub lines-tags : (es : List Entry) (rs : List R) (n : ℕ) → AreLines m caller es rs n
      → map (λ (e : Entry). e.tag) es ≡ tags_after caller n (length rs)
  lines-tags [] [] n lines = refl
  lines-tags (e ∷ es) (r ∷ rs) n lines =
      ap (λ t. t ∷ map (λ (d : Entry). d.tag) es) lines.0.tagged
      ∙ ap (λ ts. tag_of caller (n + 1) ∷ ts) (lines-tags es rs (n + 1) lines.1)
  lines-tags [] (r ∷ rs) n lines = absurd lines
  lines-tags (e ∷ es) [] n lines = absurd lines

  -- there is an entry for each reply
  pub lines-length : (es : List Entry) (rs : List R) (n : ℕ) → AreLines m caller es rs n
      → length es ≡ length rs
  lines-length [] [] n lines = refl
  lines-length (e ∷ es) (r ∷ rs) n lines = ap suc (lines-length es rs (n + 1) lines.1)
  lines-length [] (r ∷ rs) n lines = absurd lines
  lines-length (e ∷ es) [] n lines = absurd lines
