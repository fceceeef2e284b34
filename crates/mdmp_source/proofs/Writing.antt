-- What an output takes by one write after another.
use Rattle.std.proofs.Common.{◌≤◌, ◌+◌, ◌-◌, ◌++◌, ◌∙◌, ℕ, List, Option, Some, [], take, drop, length, ap, sym, append-nil, Result, Ok, Err, OnErr}
use Rattle.std.proofs.Math.Seq.{take-add}
use Rattle.std.proofs.lemmas.List.{take-append-drop, take_rest}
use Rattle.mdmp_source.specs.OutputLaws.{Takes-Takes}
use Rattle.mdmp_source.specs.Output.{Keeps, Takes, TakesPrefix}

-- a call that took none leaves what was taken before it
pub Takes-Keeps : (a b c : Option (List ℕ)) (text : List ℕ) → Takes a text b → Keeps b c → Takes a text c
Takes-Keeps a b c text took kept start known = kept (start ++ text) (took start known)

-- the first n bytes, and then k more
pub Takes-more : (a b c : Option (List ℕ)) (n k : ℕ) (text : List ℕ)
    → Takes a (take n text) b → Takes b (take k (drop n text)) c → Takes a (take (n + k) text) c
Takes-more a b c n k text took more = rw (take-add n k text) (Takes-Takes a b c (take n text) (take k (drop n text)) took more)

-- the same, where the second call was given all behind the first n
pub Takes-rest : (a b c : Option (List ℕ)) (n k : ℕ) (text : List ℕ) → n ≤ length text
    → Takes a (take n text) b → Takes b (take k (take (length text - n) (drop n text))) c → Takes a (take (n + k) text) c
Takes-rest a b c n k text within took more = Takes-more a b c n k text took (rw take_rest at more)

-- a text and then nothing
pub Takes-no_more : (a b c : Option (List ℕ)) (text : List ℕ) → Takes a text b → Takes b [] c → Takes a text c
Takes-no_more a b c text took none start known = none (start ++ text) (took start known) ∙ ap Some (append-nil (start ++ text))

-- the first n bytes are a prefix
pub TakesPrefix-take : (a b : Option (List ℕ)) (n : ℕ) (text : List ℕ) → Takes a (take n text) b → TakesPrefix a text b
TakesPrefix-take a b n text took = record { sent = take n text; rest = drop n text; whole = sym (take-append-drop n text); took = took }

-- a fact that holds anyway holds at an error
pub OnErr-holds : {T E P : Type 0} (r : Result T E) → P → OnErr r P
OnErr-holds (Ok x) p = tt
OnErr-holds (Err e) p = p
