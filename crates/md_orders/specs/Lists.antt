-- Vectors of vectors as one list.
use Rattle.std.specs.Prelude.{List, Vec}
use Rattle.std.specs.List.{flat_map}
use Rattle.std.specs.declared.alloc.Global.{Global}

-- the items of each, one vector's behind another's
abbrev pub items_in : {A : Type 0} → List (Vec A Global) → List A
items_in vectors = flat_map (λ v. v.items) vectors
