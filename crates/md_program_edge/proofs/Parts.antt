-- A text in parts.
use Rattle.std.proofs.Common.{◌≡◌, ◌<◌, ◌+◌, ◌∙◌, ◌++◌, ℕ, List, [], ◌∷◌, length, take, drop, get_or, sym, ap, add-one}
use Rattle.std.specs.Prelude.{Vec}
use Rattle.std.specs.declared.alloc.Global.{Global}
use Rattle.std.proofs.Math.Seq.{take-suc}
use Rattle.std.proofs.lemmas.List.{append-nil, take-append-drop}
use Rattle.std.proofs.lemmas.List.Concat.{flat_map-append}
use Rattle.md_report.specs.Report.{whole_text}

-- a part more at the end
pub whole_text-more : (parts : List (Vec ℕ Global)) (last : Vec ℕ Global) → whole_text (parts ++ last ∷ []) ≡ whole_text parts ++ last.items
whole_text-more parts last = flat_map-append _ parts (last ∷ []) ∙ ap (λ t. whole_text parts ++ t) (append-nil last.items)

-- the first parts, and one more
pub whole_text-next : (parts : List (Vec ℕ Global)) (at : ℕ) (part : Vec ℕ Global) → at < length parts → part ≡ get_or parts at part → whole_text (take (at + 1) parts) ≡ whole_text (take at parts) ++ part.items
whole_text-next parts at part there is =
    ap (λ n. whole_text (take n parts)) (add-one at) ∙ ap whole_text (take-suc parts at part there)
    ∙ whole_text-more (take at parts) (get_or parts at part) ∙ ap (λ p. whole_text (take at parts) ++ p.items) (sym is)

-- the parts before one, that part, and the parts behind it
pub whole_text-around : (parts : List (Vec ℕ Global)) (at : ℕ) (part : Vec ℕ Global) → at < length parts → part ≡ get_or parts at part → whole_text parts ≡ whole_text (take at parts) ++ part.items ++ whole_text (drop (at + 1) parts)
whole_text-around parts at part there is =
    ap whole_text (sym (take-append-drop (at + 1) parts)) ∙ flat_map-append _ (take (at + 1) parts) (drop (at + 1) parts)
    ∙ ap (λ t. t ++ whole_text (drop (at + 1) parts)) (whole_text-next parts at part there is)
