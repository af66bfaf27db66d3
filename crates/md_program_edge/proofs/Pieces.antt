-- One read or write more, and one text more.
use Rattle.std.proofs.Common.{◌≡◌, ◌<◌, ◌≤◌, ◌+◌, ◌∙◌, ◌++◌, ℕ, List, [], length, take, drop, Option, Some, None, subst, sym, ap, refl, append_assoc, length-append}
use Rattle.std.specs.Io.KnownBytes.{Consumes, Appends, IsAtEnd, Keeps}
use Rattle.std.proofs.KnownBytes.{Consumes-trans, Appends-nil, Appends-trans, Appends-kept}
use Rattle.std.proofs.Math.Seq.{take-add}
use Rattle.std.proofs.lemmas.List.{append-nil, length-take-le, take-append-drop}
use Rattle.md_outside.specs.Moves.{StreamCall}
use Rattle.md_outside.proofs.Chains.{Moves-none, Moves-append, Moves-one_more-take}
use Rattle.md_program_edge.specs.Streams.{HasRead, IsRead, IsReadInPart, IsWritten, HasWriteFault}
use Rattle.md_outside.specs.Causes.{Rose}

-- a read that gave some bytes
pub read-more : {I : Type 0} (gives : StreamCall I) (left : I → Option (List ℕ)) (faults : I → ℕ) (a b c : I) (bytes : List ℕ) (count : ℕ) (buffer : List ℕ)
    → HasRead gives left faults a b bytes → gives b (Some (take count buffer)) c → Consumes (left b) (left c) (take count buffer) → faults c ≡ faults b
    → 0 < count → count ≤ length buffer → HasRead gives left faults a c (bytes ++ take count buffer)
read-more gives left faults a b c bytes count buffer so_far step told kept some fits = record {
  reads = Moves-one_more-take count buffer so_far.reads step some fits;
  told = Consumes-trans (left a) (left b) (left c) bytes (take count buffer) so_far.told told;
  kept = kept ∙ so_far.kept;
}

-- a read that gave none: the end
pub read-end : {I : Type 0} (gives : StreamCall I) (left : I → Option (List ℕ)) (faults : I → ℕ) (a b c : I) (bytes : List ℕ)
    → IsReadInPart gives left faults a b bytes → gives b (Some []) c → Consumes (left b) (left c) [] → IsAtEnd (left c) → faults c ≡ faults b
    → IsRead gives left faults a c bytes
read-end gives left faults a b c bytes so_far step told ended kept = record {
  reads = (b, so_far.read.reads, step);
  told = subst (Consumes (left a) (left c)) (append-nil bytes) (Consumes-trans (left a) (left b) (left c) bytes [] so_far.read.told told);
  ended = ended;
  short = so_far.short;
  kept = kept ∙ so_far.read.kept;
}

-- how long the bytes are then
pub length-more : (bytes : List ℕ) (count : ℕ) (buffer : List ℕ) → count ≤ length buffer → length (bytes ++ take count buffer) ≡ length bytes + count
length-more bytes count buffer fits = rw (length-append bytes (take count buffer), length-take-le count buffer fits) refl

-- a write that took some bytes
pub write-more : {O : Type 0} (takes : StreamCall O) (holds : O → Option (List ℕ)) (faults : O → ℕ) (a b c : O) (text : List ℕ) (at count : ℕ)
    → IsWritten takes holds faults a b (take at text) → takes b (Some (take count (drop at text))) c → Appends (holds b) (holds c) (take count (drop at text)) → faults c ≡ faults b
    → 0 < count → count ≤ length (drop at text) → IsWritten takes holds faults a c (take (at + count) text)
write-more takes holds faults a b c text at count so_far step told kept some fits = rw take-add (record {
  writes = Moves-one_more-take count (drop at text) so_far.writes step some fits;
  told = Appends-trans (holds a) (holds b) (holds c) (take at text) (take count (drop at text)) so_far.told told;
  kept = kept ∙ so_far.kept;
})

-- a write that failed
pub write-fault : {O : Type 0} (takes : StreamCall O) (holds : O → Option (List ℕ)) (faults : O → ℕ) (a b c : O) (text : List ℕ) (at : ℕ)
    → IsWritten takes holds faults a b (take at text) → takes b None c → Keeps (holds b) (holds c) → Rose (faults b) (faults c) → HasWriteFault takes holds faults a c text
write-fault takes holds faults a b c text at so_far step told rose = record {
  written = take at text;
  rest = drop at text;
  whole = sym (take-append-drop at text);
  writes = (b, so_far.writes, step);
  told = Appends-kept (holds a) (holds b) (holds c) (take at text) so_far.told told;
  rose = subst (λ n. Rose n (faults c)) so_far.kept rose;
}

-- nothing was written yet
pub written-none : {O : Type 0} (takes : StreamCall O) (holds : O → Option (List ℕ)) (faults : O → ℕ) (a : O) → IsWritten takes holds faults a a []
written-none takes holds faults a = record { writes = Moves-none takes a; told = Appends-nil (holds a); kept = refl }

-- a text that was written after another
pub written-more : {O : Type 0} (takes : StreamCall O) (holds : O → Option (List ℕ)) (faults : O → ℕ) (a b c : O) (before text : List ℕ)
    → IsWritten takes holds faults a b before → IsWritten takes holds faults b c text → IsWritten takes holds faults a c (before ++ text)
written-more takes holds faults a b c before text first second = record {
  writes = Moves-append first.writes second.writes;
  told = Appends-trans (holds a) (holds b) (holds c) before text first.told second.told;
  kept = second.kept ∙ first.kept;
}

-- a text of which a write failed, after another that was written and before one that wasn't
pub written-fault : {O : Type 0} (takes : StreamCall O) (holds : O → Option (List ℕ)) (faults : O → ℕ) (a b c : O) (before text rest : List ℕ)
    → IsWritten takes holds faults a b before → HasWriteFault takes holds faults b c text → HasWriteFault takes holds faults a c (before ++ text ++ rest)
written-fault takes holds faults a b c before text rest first second = record {
  written = before ++ second.written;
  rest = second.rest ++ rest;
  whole = ap (λ t. before ++ t ++ rest) second.whole ∙ ap (λ t. t ++ rest) (sym (append_assoc before second.written second.rest)) ∙ append_assoc (before ++ second.written) second.rest rest;
  writes = (second.writes.0, Moves-append first.writes second.writes.1, second.writes.2);
  told = Appends-trans (holds a) (holds b) (holds c) before second.written first.told second.told;
  rose = subst (λ n. Rose n (faults c)) first.kept second.rose;
}
