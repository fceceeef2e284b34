-- What a request for the next item leaves, as those who list see it.
use Rattle.std.proofs.Common.{◌≡◌, ◌<◌, ◌∙◌, arith, ℕ, List, Option, None, Some, Result, Ok, Err, ap, length, refl, slice_get, sym, vec_capacity}
use Rattle.std.specs.Option.{option_map}
use Rattle.mdmp_map.specs.declared.range.Range.{Range}
use Rattle.mdmp_lister.specs.declared.fault.ListFault.{ListFault}
use Rattle.mdmp_lister.specs.declared.item.Item.{Item}
use Rattle.mdmp_lister.specs.declared.stage.Stage.{Stage}
use Rattle.mdmp_lister.specs.declared.stage.Stage.TheVariants.{Records}
use Rattle.mdmp_lister.specs.declared.step.Step.{Step}
use Rattle.mdmp_lister.specs.declared.walk.Walk.{Walk}
use Rattle.mdmp_lister.specs.Fault.{IsUnobtained}
use Rattle.mdmp_lister.specs.Format.Item.{plain}
use Rattle.mdmp_lister.specs.Format.Listing.{Run, nothing, only_fault, with_item}
use Rattle.mdmp_lister.specs.Lister.{AnswersNext, Gives, HasRecordsLeft, IsSameLister, NextLeaves, ListerState, tail}
use Rattle.mdmp_lister.specs.Meter.{counts_of}
use Rattle.mdmp_lister.specs.Following.{records_by}
use Rattle.mdmp_lister.specs.Stage.{records_left_in, standing_of, stop_of}
use Rattle.mdmp_lister.specs.Step.{IsNameHeld, step_item}
use Rattle.mdmp_lister.specs.Walk.{IsReading, IsSound, held_beside, left_of, work_of}
use Rattle.mdmp_lister.specs.Walk.Paying.{unread_bytes}
use Rattle.mdmp_lister.specs.Walk.Requests.{Answered}
use Rattle.mdmp_lister.proofs.Budgets.{fault_over}
use Rattle.mdmp_lister.proofs.Advancing.{becomes, of_run, option_map-then, passes, same_entries, same_rooms}
use Rattle.mdmp_lister.proofs.Classes.{classed-given, step-told}
use Rattle.mdmp_lister.proofs.Costs.{item_cost-step, stopped-unread}
use Rattle.mdmp_lister.proofs.Ending.{left_of-fault}
use Rattle.mdmp_lister.proofs.Naming.{names_raised}
use Rattle.mdmp_lister.proofs.Requests.{fault_stage-stop}
use Rattle.mdmp_lister.proofs.Summary.{begins_as}

module _ {S A : Type 0} where
  -- a walk beside ranges that are kept, with room for so many
  abbrev pub listed_by : List Range → ℕ → Walk S A → ListerState
  listed_by ranges room w = record {
    source = w.meter.source;
    counts = counts_of w.meter;
    header = w.header;
    entries = w.entries.items;
    choice = w.choice;
    limit = w.name.limit;
    rooms = record { entries = vec_capacity w.entries; window = w.window.room; ranges = room; held = held_beside room w };
    passed = w.next;
    current = w.current;
    ranges = ranges;
    left = option_map (left_of w) w.meter.source.store.content;
    stop = stop_of w.stage;
    unread = unread_bytes w;
    standing = standing_of w.stage;
    records = records_left_in w.stage;
    work = work_of w;
  }

pub records_stand : (stage : Stage) → records_left_in stage ≡ records_by (standing_of stage)
records_stand (Records kind shape index offset) = refl
records_stand _ = refl

-- the records that are left of the current entry are its own
module _ {S A : Type 0} (w : Walk S A) (rs : List Range) (room : ℕ) (sound : IsSound w) (file : List ℕ) (known : w.meter.source.store.content ≡ Some file) where
  left_at : (stage : Stage) → w.stage ≡ stage → 0 < records_left_in stage → HasRecordsLeft file (listed_by rs room w) (records_left_in stage)
  left_at (Records kind shape index offset) at some =
      let reading : IsReading w.meter.source.size w.next w.current kind shape index offset = rw at at sound.staged in
      record {
        kind = kind;
        shape = shape;
        given = index;
        kind_is = reading.known;
        shape_is = (rw at at (sound.headed file known)).0;
        count = omega (arith, reading.within);
        left = rw (known, at) refl;
      }
  left_at _ at some = absurd (omega (arith, some))

  pub records_known : 0 < records_left_in w.stage → HasRecordsLeft file (listed_by rs room w) (records_left_in w.stage)
  records_known some = left_at w.stage refl some

module _ {S A : Type 0} (w n : Walk S A) (room : ℕ) where
  same_list : (rs rest : List Range) → (r : Result (Option Step) ListFault) → Answered w r n → IsSameLister (listed_by rs room w) (listed_by rest room n)
  same_list rs rest r e = record {
    aside = e.counts.same_aside;
    start = e.counts.same_start;
    budget = e.counts.same_budget;
    header_is = e.same.header_is;
    choice = e.same.choice;
    limit = e.same.name;
    entries = same_entries w n e.same;
    rooms = same_rooms w n room e.same;
  }

  -- ---- what comes next, whatever the file holds

  pub follows_none : (rs rest : List Range) → Answered w (Ok None) n → stop_of w.stage ≡ None → AnswersNext (listed_by rs room w) (Ok None) (listed_by rest room n)
  follows_none rs rest e going = record { read = Ok None; told = refl; follows = e.follows going }

  pub follows_fault : (rs rest : List Range) (f : ListFault) → Answered w (Err f) n → stop_of w.stage ≡ None → AnswersNext (listed_by rs room w) (Err f) (listed_by rest room n)
  follows_fault rs rest f e going = record { read = Err f; told = refl; follows = e.follows going }

  pub follows_item : (rs rest : List Range) (s : Step) (x : Item) → Answered w (Ok (Some s)) n → plain x ≡ step_item n.meter.source.size n.name.items s → stop_of w.stage ≡ None
      → AnswersNext (listed_by rs room w) (Ok (Some x)) (listed_by rest room n)
  follows_item rs rest s x e told going =
      let held : IsNameHeld (length n.name.items) s = e.given.held.0 in
      record {
        read = Ok (Some s);
        told = (plain x, (refl, rw (told, e.fetches.same_size) (step-told w.meter.source.size n.name.items s held)));
        follows = e.follows going;
      }

  -- ---- at the end

  module _ (rs : List Range) (e : Answered w (Ok None) n) where
    pub leaves_none : NextLeaves (listed_by rs room w) (Ok None) (listed_by rs room n)
    leaves_none = record {
      same = same_list rs rs (Ok None) e;
      spends = record {
        fetches = e.fetches;
        costs = e.costs;
        counts = e.counts;
        names = e.named;
        names_at_fault = λ _. tt;
        refused = tt;
        unread = stopped-unread n.meter.source.size n.current n.window n.stage None e.stage;
      };
      stands = record {
        left = option_map-then (left_of w) (left_of n) (λ run. run) w.meter.source.store.content (λ file known. (e.listing file known).1 ∙ sym (e.listing file known).0) n.meter.source.store.content e.fetches.same_content;
        stop = e.stage;
        repeats = λ stop same. rw (e.repeats stop same).0 refl;
        falls = tt;
        rests = e.rests;
      };
      places = record {
        passed = tt;
        current = e.current;
        records = e.records;
        classed = tt;
        entry = λ _. tt;
      };
      told = λ _. tt;
      next = λ _. tt;
    }

    pub gives_none : (left : Run) → (listed_by rs room w).left ≡ Some left → Gives left (Ok None)
    gives_none = of_run (left_of w) (λ left. left ≡ nothing) w.meter.source.store.content (λ file known. (e.listing file known).0)

  -- ---- at a fault

  module _ (rs : List Range) (f : ListFault) (e : Answered w (Err f) n) where
    pub leaves_fault : NextLeaves (listed_by rs room w) (Err f) (listed_by rs room n)
    leaves_fault =
        let stopped : stop_of n.stage ≡ Some (Some f) = rw e.stage (fault_stage-stop f) in
        record {
          same = same_list rs rs (Err f) e;
          spends = record {
            fetches = e.fetches;
            costs = tt;
            counts = e.counts;
            names = tt;
            names_at_fault = λ going. (e.met going).named;
            refused = fault_over _ f n.meter (rw e.stage at e.sound.refused);
            unread = stopped-unread n.meter.source.size n.current n.window n.stage (Some f) stopped;
          };
          stands = record {
            left = option_map-then (left_of w) (left_of n) (λ _. only_fault f) w.meter.source.store.content (λ file known. left_of-fault n file f e.stage) n.meter.source.store.content e.fetches.same_content;
            stop = stopped;
            repeats = λ stop same. rw (e.repeats stop same).0 refl;
            falls = tt;
            rests = e.rests;
          };
          places = record {
            passed = e.passed;
            current = e.current;
            records = tt;
            classed = tt;
            entry = λ going. (e.met going).number;
          };
          told = λ going. (e.met going).told;
          next = λ going. (e.met going).next;
        }

    pub gives_fault : (left : Run) → (listed_by rs room w).left ≡ Some left → Gives left (Err f)
    gives_fault = of_run (left_of w) (λ left. (IsUnobtained f.kind → ⊥) → left ≡ only_fault f) w.meter.source.store.content (λ file known not. (e.listing file known not).0)

  -- ---- at an item

  module _ (rs rest : List Range) (s : Step) (x : Item) (e : Answered w (Ok (Some s)) n) (told : plain x ≡ step_item n.meter.source.size n.name.items s) where
    given : (file : List ℕ) → w.meter.source.store.content ≡ Some file → left_of w file ≡ with_item (plain x) (left_of n file)
    given file known = rw (told, e.fetches.same_size) (e.listing file known)

    pub leaves_item : NextLeaves (listed_by rs room w) (Ok (Some x)) (listed_by rest room n)
    leaves_item =
        let z = n.meter.source.size in
        let buffer = n.name.items in
        let held = e.given.held in
        let begins = begins_as z buffer s x told in
        record {
          same = same_list rs rest (Ok (Some s)) e;
          spends = record {
            fetches = rw (item_cost-step z buffer _ s x held.0 held.1 told, begins) e.fetches;
            costs = rw (item_cost-step z buffer _ s x held.0 held.1 told, begins) e.costs;
            counts = e.counts;
            names = names_raised z buffer _ s x w.meter.names n.meter.names held.1 told e.named;
            names_at_fault = λ _. tt;
            refused = tt;
            unread = rw begins e.given.begins;
          };
          stands = record {
            left = option_map-then (left_of w) (left_of n) tail w.meter.source.store.content (λ file known. sym (ap tail (given file known))) n.meter.source.store.content e.fetches.same_content;
            stop = e.stage;
            repeats = λ stop same. let a : None ≡ Some stop = (e.repeats stop same).1 in absurd (cc);
            falls = e.given.falls;
            rests = e.rests;
          };
          places = record {
            passed = passes z buffer s x w.next n.next told e.passed;
            current = becomes z buffer s x w.current n.current told e.current;
            records = λ some. let taken = e.records some in (begins ∙ taken.0, taken.1);
            classed = classed-given w.meter.source.size buffer n.current s x (rw e.fetches.same_size at told) held.1;
            entry = λ _. tt;
          };
          told = λ _. tt;
          next = λ _. tt;
        }

    pub gives_item : (left : Run) → (listed_by rs room w).left ≡ Some left → Gives left (Ok (Some x))
    gives_item = of_run (left_of w) (λ left. slice_get left.items 0 ≡ Some (plain x)) w.meter.source.store.content (λ file known. ap (λ (r : Run). slice_get r.items 0) (given file known))
