-- Items that are read one after the other, each with its parts behind it.
use Rattle.std.specs.Prelude.{◌≡◌, ◌≤◌, ◌+◌, ◌⊎◌, List, [], ◌∷◌, None, Result, Ok, Err}
use Rattle.mdmp_lister.specs.declared.item.Item.{Item}
use Rattle.mdmp_lister.specs.Lister.{ListerState}
use Rattle.mdmp_lister.specs.Requested.{AnswersRequest, IsRequested, OnlyReadsAside}
use Rattle.mdmp_dump.specs.declared.fault.ReadFault.{ReadFault}
use Rattle.mdmp_dump.specs.declared.fault.ReadFault.TheVariants as faults
use Rattle.mdmp_dump.specs.Refusal.{ReadStep, bytes_in_steps, item_steps, parts_in_steps}

-- of the bytes that some steps take, no more was read than those that `left` does not take, each part by one call; no item was asked for
pub record ReadsParts (steps left : List ReadStep) (old new : ListerState) : Type 0 where
  pub aside : OnlyReadsAside old new
  pub bytes : new.counts.aside.bytes + bytes_in_steps left ≤ old.counts.aside.bytes + bytes_in_steps steps
  pub calls : new.counts.aside.calls + parts_in_steps left ≤ old.counts.aside.calls + parts_in_steps steps

-- these items were given by requests for the next one, one after the other. Behind each its own parts were read and nothing else, and
-- before the first what `steps` take; what `left` takes is still to be read
abbrev pub AreReadInTurn : (steps : List ReadStep) → ListerState → List Item → (left : List ReadStep) → ListerState → Type 0
AreReadInTurn steps u [] left v = ReadsParts steps left u v
AreReadInTurn steps u (x ∷ xs) left v =
    (b : ListerState) × (ReadsParts steps [] u b × ((m : ListerState) × (IsRequested b x m × AreReadInTurn (item_steps b.source.size x) m xs left v)))

-- a listing's error ended a reading
abbrev pub IsOfListing : ReadFault → Type 0
IsOfListing (faults.List f) = Unit {0}
IsOfListing fault = ⊥

-- no more was asked for, or the end was answered
abbrev pub EndsOrStops : ListerState → ListerState → Type 0
EndsOrStops u v = (v ≡ u) ⊎ AnswersRequest u (Ok None) v

-- and so where a reading ended, but for an error of the listing, with which one more request was answered
abbrev pub EndsReading : {T : Type 0} → ListerState → Result T ReadFault → ListerState → Type 0
EndsReading u (Ok x) v = EndsOrStops u v
EndsReading u (Err (faults.List f)) v = AnswersRequest u (Err f) v
EndsReading u (Err fault) v = EndsOrStops u v

-- a lister gave some items so, each with its parts, and was asked for no other, save for one request that ended the reading
pub record ReadsInTurn {T : Type 0} (steps : List ReadStep) (result : Result T ReadFault) (left : List ReadStep) (old new : ListerState) : Type 0 where
  pub items : List Item
  pub behind : ListerState
  pub given : AreReadInTurn steps old items left behind
  pub ended : EndsReading behind result new

-- what is still to be read, by what was answered: nothing where a reading ended
abbrev pub steps_left : {T : Type 0} → (T → List ReadStep) → Result T ReadFault → List ReadStep
steps_left left (Ok x) = left x
steps_left left (Err fault) = []
