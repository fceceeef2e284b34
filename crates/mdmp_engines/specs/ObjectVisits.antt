-- What the visitors do that print the modules and the threads of a summary's object.
use Rattle.std.specs.Prelude.{◌≡◌, ◌≤◌, ℕ, List, Bool, Option, None, Some, Result, Ok, Err, length, min}
use Rattle.mdmp_source.specs.Output.{HasRefused, OutState, PutsAll, PutsPrefix}
use Rattle.mdmp_wire.specs.declared.module.ModuleRecord.{ModuleRecord}
use Rattle.mdmp_wire.specs.declared.thread.ThreadRecord.{ThreadRecord}
use Rattle.mdmp_lister.specs.declared.item.Item.{Item}
use Rattle.mdmp_lister.specs.declared.meter.Amount.{Amount}
use Rattle.mdmp_lister.specs.declared.sink.Stopped.{Stopped}
use Rattle.mdmp_summary.specs.Spending.{context_cost}
use Rattle.mdmp_summary.specs.Symbols.{symbols_bound}
use Rattle.mdmp_summary.specs.Visiting.{nothing_read}
use Rattle.mdmp_summary.specs.declared.visiting.VisitEnd.{VisitEnd}
use Rattle.mdmp_summary.specs.declared.visiting.VisitEnd.TheVariants as ends
use Rattle.mdmp_engines.specs.SummaryObject.{CrashedThread, count_with, first_still, found_with, ids_of, module_begun, module_front, thread_begun, thread_text}

-- a text was put of a file of this content, if it is known; or the output refused, or nothing was put
abbrev pub PutsOf : Option (List ℕ) → (List ℕ → List ℕ) → OutState → Result (Unit {0}) VisitEnd → OutState → Type 0
PutsOf content text before (Ok done) after = (after.failures ≡ before.failures) × ((F : List ℕ) → content ≡ Some F → PutsAll before (text F) after)
PutsOf content text before (Err ends.Stopped) after = HasRefused before.failures after.failures × ((F : List ℕ) → content ≡ Some F → PutsPrefix before (text F) after)
PutsOf content text before (Err (ends.Source fault)) after = after ≡ before

-- an output refused once, or never
abbrev pub HasOut : {E : Type 0} → Result (Unit {0}) E → OutState → OutState → Type 0
HasOut (Ok done) before after = after.failures ≡ before.failures
HasOut (Err refused) before after = HasRefused before.failures after.failures

-- ---- modules

-- how a visitor that prints modules stands: its output, the module that is begun, whether it is the first, and its room
pub record ModulesAt : Type 0 where
  pub out : OutState
  pub begun : Option ModuleRecord
  pub is_first : Bool
  pub room : ℕ

-- the front of a module was put, if the item is one
abbrev pub TakesModule : ModulesAt → Item → Result (Unit {0}) Stopped → ModulesAt → Type 0
TakesModule old x (Ok done) new = PutsAll old.out (module_front old.is_first x) new.out
    × (new ≡ record old { out = new.out; begun = module_begun x; is_first = first_still old.is_first x })
TakesModule old x (Err stopped) new = PutsPrefix old.out (module_front old.is_first x) new.out

-- and then its ids
abbrev pub LooksModule : Option (List ℕ) → ModulesAt → Result (Unit {0}) VisitEnd → ModulesAt → Type 0
LooksModule content old result new = (new ≡ record old { out = new.out; begun = None }) × PutsOf content (λ F. ids_of F old.room old.begun) old.out result new.out

-- how many bytes it reads of the module that is begun, at most
abbrev pub module_cost : ℕ → Option ModuleRecord → Amount
module_cost room (Some fields) = symbols_bound fields.cv_record room
module_cost room None = nothing_read

abbrev pub module_room : ℕ → Item → Amount
module_room room x = module_cost room (module_begun x)

-- room for the name of a symbol file, of at most `limit` bytes: of a known file as much as it can need, since the name is inside
pub record HasSymbolsRoom (content : Option (List ℕ)) (limit room : ℕ) : Type 0 where
  pub most : room ≤ limit
  pub enough : (file : List ℕ) → content ≡ Some file → room ≡ min limit (length file)

-- ---- threads

pub record ThreadsAt : Type 0 where
  pub out : OutState
  pub crashed : CrashedThread
  pub begun : Option ThreadRecord
  pub count : ℕ
  pub found : Option ℕ

-- a thread is begun, if the item is one
abbrev pub TakesThread : ThreadsAt → Item → Result (Unit {0}) Stopped → ThreadsAt → Type 0
TakesThread old x result new = (result ≡ Ok tt) × (new ≡ record old { begun = thread_begun x })

-- and then its object was put
abbrev pub LooksThread : Option (List ℕ) → ThreadsAt → Result (Unit {0}) VisitEnd → ThreadsAt → Type 0
LooksThread content old (Ok done) new = (new ≡ record old { out = new.out; begun = None; count = count_with old.count old.begun; found = found_with old.crashed.id old.count old.found old.begun })
    × PutsOf content (λ F. thread_text F old.crashed old.count old.begun) old.out (Ok done) new.out
LooksThread content old (Err end) new = PutsOf content (λ F. thread_text F old.crashed old.count old.begun) old.out (Err end) new.out

abbrev pub thread_cost : Option ThreadRecord → Amount
thread_cost (Some t) = context_cost
thread_cost None = nothing_read

abbrev pub thread_room : ℕ → Item → Amount
thread_room span x = thread_cost (thread_begun x)
