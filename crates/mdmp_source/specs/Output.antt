-- What an output has taken, and what a call that writes a text leaves.
use Rattle.std.specs.Prelude.{◌≡◌, ℕ, Bool, if◌then◌else◌, List, [], ◌∷◌, ◌++◌, Option, Some, Result, MatchResult}
use Rattle.mdmp_source.specs.Count.{raised}

-- how often an output refused, and by which loans it is reached
pub record Refusals : Type 0 where
  -- how often it answered an error, or took none of some bytes; the count stops at the greatest u128
  pub count : ℕ
  -- the names of the loans by which it is reached, the last one first; none where nothing on the way is lent
  pub loans : List ℕ

-- of an output that is reached by no loan
abbrev pub unlent : ℕ → Refusals
unlent count = record { count = count; loans = [] }

-- one refusal more
abbrev pub refused_once : Refusals → Refusals
refused_once r = record { count = raised r.count 1; loans = r.loans }

-- one refusal more, where the output refused
abbrev pub refused_if : Bool → Refusals → Refusals
refused_if more r = if more then refused_once r else r

-- there is one more since and no other, and the loans are the same
pub record HasRefused (before after : Refusals) : Type 0 where
  pub more : after.count ≡ raised before.count 1
  pub loans : after.loans ≡ before.loans

-- an output as its callers see it
pub record OutState : Type 0 where
  -- the bytes that it took, where they are known
  pub taken : Option (List ℕ)
  -- how often it refused, and its loans
  pub failures : Refusals

-- an output that is lent under this name
abbrev pub lent : ℕ → OutState → OutState
lent name out = record { taken = out.taken; failures = record { count = out.failures.count; loans = name ∷ out.failures.loans } }

-- an output that had taken known bytes has taken no others
abbrev pub Keeps : Option (List ℕ) → Option (List ℕ) → Type 0
Keeps before after = (start : List ℕ) → before ≡ Some start → after ≡ Some start

-- an output that had taken known bytes has taken the text behind them
abbrev pub Takes : Option (List ℕ) → List ℕ → Option (List ℕ) → Type 0
Takes before text after = (start : List ℕ) → before ≡ Some start → after ≡ Some (start ++ text)

-- it has taken the first part of the text
pub record TakesPrefix (before : Option (List ℕ)) (text : List ℕ) (after : Option (List ℕ)) : Type 0 where
  pub sent : List ℕ
  pub rest : List ℕ
  pub whole : text ≡ sent ++ rest
  pub took : Takes before sent after

-- all of the text went out, without a refusal
pub record PutsAll (before : OutState) (text : List ℕ) (after : OutState) : Type 0 where
  pub took : Takes before.taken text after.taken
  pub steady : after.failures ≡ before.failures

-- the output refused once, and the first part of the text had gone out: behind its refusal nothing was asked of it
pub record PutsPrefix (before : OutState) (text : List ℕ) (after : OutState) : Type 0 where
  pub took : TakesPrefix before.taken text after.taken
  pub refused : HasRefused before.failures after.failures

-- a call that writes a text: all of it, or an error because the output refused once
abbrev pub Puts : {T E : Type 0} → Result T E → OutState → List ℕ → OutState → Type 0
Puts result before text after = MatchResult result (λ _. PutsAll before text after) (λ _. PutsPrefix before text after)
