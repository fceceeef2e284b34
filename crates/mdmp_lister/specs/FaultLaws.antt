-- Which faults a listing may tell of a file, by its size alone.
use Rattle.std.proofs.Common.{◌≡◌, ℕ, zero, suc, List, Option, Some, None, Result, Ok, Err, arith, refl, subst, sym}
use Rattle.mdmp_wire.specs.declared.entry.Entry.{Entry}
use Rattle.mdmp_lister.specs.declared.choice.Choice.{Choice}
use Rattle.mdmp_lister.specs.declared.fault.Fault.{Fault}
use Rattle.mdmp_lister.specs.declared.fault.ListFault.{ListFault}
use Rattle.mdmp_lister.specs.declared.step.Step.{Step}
use Rattle.mdmp_lister.specs.Fault.{IsListFaultOf}
use Rattle.mdmp_lister.specs.Following.{Cursor, FitsFile, Follows, GoesOn, IsEntryFault, MeetsFault, MeetsRecordFault, Standing}
use Rattle.mdmp_lister.specs.Following as following
use Rattle.mdmp_lister.specs.Lister.{AnswersNext, ListerState, cursor_in}
use Rattle.mdmp_lister.specs.Sink.{RangesFollow}
use Rattle.mdmp_lister.specs.Step.{TellsAnswer}

meets_fits : (z limit : ℕ) (c : Cursor) (index : Option ℕ) (fault : Fault) (f : ListFault) (d : Cursor) → MeetsFault c index fault (Err f) d
    → IsEntryFault z limit c.current index fault → FitsFile z f
meets_fits z limit c index fault f d meets of =
    let told = meets.answer_is in
    let same : meets.f ≡ f = cc in
    subst (λ (g : ListFault). FitsFile z g) same (record {
      entry = c.current;
      limit = limit;
      index = index;
      fault = fault;
      of_entry = of;
      is = subst (λ number. IsListFaultOf number index fault meets.f) (sym meets.is.entry) meets.is;
    })

module _ (choice : Choice) (entries : List Entry) (z limit : ℕ) where
  goes_fits : (c : Cursor) (s : Standing) (f : ListFault) (d : Cursor) → GoesOn choice entries z limit c s (Err f) d → FitsFile z f
  goes_fits c following.through f d goes = absurd goes
  goes_fits c following.begun f d goes = absurd goes
  goes_fits c (following.within given zero offset) f d goes = absurd (goes.0 refl)
  goes_fits c (following.within given (suc left) offset) f d goes =
      let met : MeetsRecordFault choice entries z limit c given (Err f) d = goes.1 (omega (arith)) in
      meets_fits z limit c (Some given) met.fault f d met.meets (met.kind, (met.kind_is, met.is))

  -- a fault that may come next fits the file
  pub follows_fits : (c : Cursor) (f : ListFault) (d : Cursor) → Follows choice entries z limit c (Err f) d → FitsFile z f
  follows_fits c f d (following.goes_on goes) = goes_fits c c.standing f d goes
  follows_fits c f d (following.begins at s is goes) = goes_fits c s f d goes
  follows_fits c f d (following.refuses at fault is meets) = meets_fits z limit c None fault f d meets is

-- and so does one that a request is answered with
pub next_fits : (old : ListerState) (f : ListFault) (new : ListerState) → AnswersNext old (Err f) new → FitsFile old.source.size f
next_fits old f new answers = by answers.read answers.told answers.follows where
  by : (read : Result (Option Step) ListFault) → TellsAnswer old.source.size read (Err f)
      → Follows old.choice old.entries old.source.size old.limit (cursor_in old) read (cursor_in new) → FitsFile old.source.size f
  by (Ok None) told follows = absurd (cc)
  by (Ok (Some s)) told follows = (let never = told.1.0 in absurd (cc))
  by (Err g) told follows =
      let same : g ≡ f = cc in
      subst (λ (h : ListFault). FitsFile old.source.size h) same (follows_fits old.choice old.entries old.source.size old.limit (cursor_in old) g (cursor_in new) follows)

-- and one with which a run for the ranges ends
pub ranges_fit : (old : ListerState) (f : ListFault) (new : ListerState) → RangesFollow old (Err f) new → FitsFile old.source.size f
ranges_fit old f new follow = follows_fits old.choice old.entries old.source.size old.limit follow.follows.behind f (cursor_in new) follow.follows.ends
