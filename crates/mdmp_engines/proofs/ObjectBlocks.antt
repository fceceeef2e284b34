-- An object that is gathered in blocks, and the flush behind it.
use Rattle.std.proofs.Common.{◌≡◌, ◌∙◌, ℕ, List, [], Option, Result, Ok, Err, append-nil, refl, subst, sym}
use Rattle.mdmp_lister.specs.declared.item.Item.{Item}
use Rattle.mdmp_lister.specs.declared.meter.Amount.{Amount}
use Rattle.mdmp_lister.specs.Walker.{WalkerState}
use Rattle.mdmp_print.specs.Blocks.{MovesFront}
use Rattle.mdmp_source.specs.Output.{HasRefused, OutState, TakesPrefix}
use Rattle.mdmp_engines.specs.Causes.{HasOutCause}
use Rattle.mdmp_engines.specs.Engines.{EndsFlushed, IsFlushed, RefusesWithin, refused, stands}
use Rattle.mdmp_engines.specs.ObjectRuns.{AreItems, LeavesPasses, PrintsAnswer, PrintsThrough, ReadsLists}
use Rattle.mdmp_engines.specs.declared.fault.ToolFault.{ToolFault}
use Rattle.mdmp_engines.specs.declared.fault.ToolFault.TheVariants as tool
use Rattle.mdmp_engines.proofs.BlockLemmas.{Flush, all, all_out, first_out, not_refused, one_refused, part_out, with_pending}
use Rattle.mdmp_engines.proofs.Engining.{cause_from}

-- whatever the answer, what was written is a prefix of the text
answer_prefix : (text : List ℕ) (bad : ℕ) (a b : OutState) (r : Result ℕ ToolFault) → PrintsAnswer text bad a r b → TakesPrefix a.taken text b.taken
answer_prefix text bad a b (Ok n) put = let took = put.1.took in all a.taken b.taken text took
answer_prefix text bad a b (Err tool.Out) cut = cut.took
answer_prefix text bad a b (Err f) short = short.1.took

pub answer_flushed : (text : List ℕ) (bad : ℕ) (a b c : OutState) (old pending left : List ℕ) (r s : Result ℕ ToolFault) → old ≡ [] → MovesFront b pending c left → IsFlushed s left
    → EndsFlushed r s b c → HasOutCause (with_pending a old) r (with_pending b pending) → PrintsAnswer text bad (with_pending a old) r (with_pending b pending) → PrintsThrough text bad a s c
answer_flushed text bad a b c old pending left r s none moved flushed ends cause prints = by ends where
  flush : Flush a b c old pending left
  flush = record { none = none; moved = moved }

  cut : HasRefused a.failures c.failures → RefusesWithin a text c
  cut risen = part_out a b c old pending left text flush risen (answer_prefix text bad (with_pending a old) (with_pending b pending) r prints)

  through : (r : Result ℕ ToolFault) → IsFlushed r left → c.failures ≡ b.failures → PrintsAnswer text bad (with_pending a old) r (with_pending b pending)
      → (HasRefused a.failures c.failures → RefusesWithin a text c) → PrintsThrough text bad a r c
  through (Ok n) done same put cut = (put.0, all_out a b c old pending left text flush done same put.1)
  through (Err tool.Out) done same put cut = cut (subst (HasRefused a.failures) (sym same) put.refused)
  through (Err f) done same short cut = (short.0, first_out a b c old pending left text flush done same short.1)

  by : EndsFlushed r s b c → PrintsThrough text bad a s c
  by (stands same steady) =
      let done : IsFlushed r left = subst (λ (x : Result ℕ ToolFault). IsFlushed x left) same flushed in
      subst (λ (x : Result ℕ ToolFault). PrintsThrough text bad a x c) (sym same) (through r done steady prints cut)
  by (refused other out more) =
      let same : b.failures ≡ a.failures = not_refused (with_pending a old) (with_pending b pending) r other cause in
      subst (λ (x : Result ℕ ToolFault). PrintsThrough text bad a x c) (sym out) (cut (one_refused a.failures b.failures c.failures same more))

pub out_flushed : (a b c : OutState) (old pending : List ℕ) (r s : Result ℕ ToolFault) → EndsFlushed r s b c → HasOutCause (with_pending a old) r (with_pending b pending) → HasOutCause a s c
out_flushed a b c old pending r s (stands same steady) cause =
    subst (λ (x : Result ℕ ToolFault). HasOutCause a x c) (sym same) (cause_from (with_pending a old) (with_pending b pending) a c r refl steady cause)
out_flushed a b c old pending r s (refused other out more) cause =
    let same : b.failures ≡ a.failures = not_refused (with_pending a old) (with_pending b pending) r other cause in
    subst (λ (x : Result ℕ ToolFault). HasOutCause a x c) (sym out) (one_refused a.failures b.failures c.failures same more)

-- the flush reads nothing
pub leaves_flushed : (passes : ℕ) (old new : WalkerState) (b c : OutState) (r s : Result ℕ ToolFault) → EndsFlushed r s b c → LeavesPasses passes old r new → LeavesPasses passes old s new
leaves_flushed passes old new b c r s (stands same steady) leaves = subst (λ (x : Result ℕ ToolFault). LeavesPasses passes old x new) (sym same) leaves
leaves_flushed passes old new b c r s (refused other out more) leaves =
    subst (λ (x : Result ℕ ToolFault). LeavesPasses passes old x new) (sym out)
    (record { pays = leaves.pays; same = leaves.same; good = λ file good. tt; cause = tt; over = tt; going = tt; stops = tt })

are_cut : (all items : List Item) (r : Result ℕ ToolFault) (f : ToolFault) → AreItems all items r → AreItems {T = ℕ} all items (Err f)
are_cut all items (Ok n) f are = ([], are ∙ sym (append-nil items))
are_cut all items (Err g) f are = are

pub reads_flushed : (limit : ℕ) (content : Option (List ℕ)) (old new : Amount) (b c : OutState) (r s : Result ℕ ToolFault) → EndsFlushed r s b c → ReadsLists limit content r old new
    → ReadsLists limit content s old new
reads_flushed limit content old new b c r s (stands same steady) reads = subst (λ (x : Result ℕ ToolFault). ReadsLists limit content x old new) (sym same) reads
reads_flushed limit content old new b c r s (refused other out more) reads =
    subst (λ (x : Result ℕ ToolFault). ReadsLists limit content x old new) (sym out) (record {
      modules = reads.modules;
      threads = reads.threads;
      bytes = reads.bytes;
      all = λ file known.
          let are = reads.all file known in
          (are_cut _ _ r tool.Out are.0, are_cut _ _ r tool.Out are.1);
    })

-- nothing is pending where nothing was printed
pub still_flushed : (r : Result ℕ ToolFault) (pending : List ℕ) → pending ≡ [] → IsFlushed r pending
still_flushed (Err tool.Out) pending none = tt
still_flushed r pending none = none
