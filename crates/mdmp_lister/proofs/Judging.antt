-- What a check reads of an entry: items one behind the other, and the fault or the end behind them.
use Rattle.std.proofs.Common.{◌≡◌, ◌≤◌, ◌+◌, ◌-◌, ◌++◌, ◌∷◌, [], ◌∙◌, ℕ, List, false, Option, Some, None, Ok, Err, arith, ap, append_assoc, append-nil, refl, subst, sym}
use Rattle.std.proofs.lemmas.List.Elements.{filter_map-append}
use Rattle.std.proofs.lemmas.List.Sums.{sum_by-append, sum_by-cons}
use Rattle.std.specs.Prelude.{map}
use Rattle.mdmp_wire.specs.declared.entry.Entry.{Entry}
use Rattle.mdmp_source.specs.Source.{FetchesAtMost}
use Rattle.mdmp_source.specs.SourceLaws.{fetches_then}
use Rattle.mdmp_map.specs.Map.{MapState, free_of}
use Rattle.mdmp_lister.specs.declared.fault.FaultKind.{FaultKind}
use Rattle.mdmp_lister.specs.declared.fault.FaultKind.TheVariants.{Source, Budget}
use Rattle.mdmp_lister.specs.declared.fault.ListFault.{ListFault}
use Rattle.mdmp_lister.specs.declared.item.Item.{Item}
use Rattle.mdmp_lister.specs.declared.stage.Stage.{Stage}
use Rattle.mdmp_lister.specs.declared.stage.Stage.TheVariants.{Between, Head, Records}
use Rattle.mdmp_lister.specs.declared.step.Step.{Step}
use Rattle.mdmp_lister.specs.declared.walk.Walk.{Walk}
use Rattle.mdmp_lister.specs.Check.{IsAtEnd, IsSpent}
use Rattle.mdmp_lister.specs.Check as spent
use Rattle.mdmp_lister.specs.declared.choice.Choice.{Choice}
use Rattle.mdmp_lister.specs.Costs.{IsUnreadBy, bad_name_cost, item_cost, items_cost, step_cost, stream_begun}
use Rattle.mdmp_lister.specs.Format.Summary.{summary_of}
use Rattle.mdmp_lister.specs.Fault.{IsUnobtained}
use Rattle.mdmp_lister.specs.Following.{Cursor, Follows, IsReadOn, headed, stays}
use Rattle.mdmp_lister.specs.Format.Item.{plain}
use Rattle.mdmp_lister.specs.Format.Listing.{Numbered, Run, all_joined, chosen_from, entry_listing, joined, only_fault}
use Rattle.mdmp_lister.specs.Format.Numbers.{faulty_name, maybe_name, names_of}
use Rattle.mdmp_lister.specs.Format.Ranges.{range_of, ranges_of}
use Rattle.mdmp_lister.specs.Meter.{MeterState, Moves, counts_of}
use Rattle.mdmp_lister.specs.Sink.{give_all, names_of_all}
use Rattle.mdmp_lister.specs.Stage.{ends, stage_by, standing_of, stop_of}
use Rattle.mdmp_lister.specs.Step.{IsItemOf, stream_told}
use Rattle.mdmp_lister.specs.Walk.{IsThrough, SameEntry, SameRoom, current_of, cursor_of, rest_of}
use Rattle.mdmp_lister.specs.Walk.Checking.{EntryJudged, FaultRead, ItemsRead, MayCome, OneRead, RecordGiven, judged_by}
use Rattle.mdmp_lister.specs.Walk.Mapping.{IsMapped}
use Rattle.mdmp_lister.specs.Walk.Owing.{HasRoom}
use Rattle.mdmp_lister.specs.Walk.Paying.{unread_bytes}
use Rattle.mdmp_lister.specs.Walk.Requests.{Answered, HeadRead, StepTaken, standpoint_of}
use Rattle.mdmp_lister.proofs.Classes.{step-told}
use Rattle.mdmp_lister.proofs.Cursors.{follows_read, may_none, may_then}
use Rattle.mdmp_lister.proofs.Fetches.{FetchesAtMost-within, told_in_later}
use Rattle.mdmp_lister.proofs.Mapping.{kept, mapped, ranges-given, ranges_of-plain, ranges_of-within, same_file}
use Rattle.mdmp_lister.proofs.NamesFetched.{named_one, names_later, names_more, names_none}
use Rattle.mdmp_lister.proofs.Naming.{faulty_most, names_given, names_of-plain}
use Rattle.mdmp_lister.proofs.Paying.{bounded_then}
use Rattle.mdmp_lister.proofs.Requests.{Moves-none, stage-through}
use Rattle.mdmp_lister.proofs.Soundness.{IsGood-after}
use Rattle.mdmp_lister.proofs.Costs.{item_cost-step}
use Rattle.mdmp_lister.proofs.Standpoints.{some_fetch}
use Rattle.mdmp_lister.proofs.Summary.{begins_as}
use Rattle.mdmp_lister.proofs.Spending.{HasCost-none, HasCost-one, HasCost-then}

-- ---- fetches, counts and ranges of more than one step

pub moves_then : (m n k : ℕ) (a b c : MeterState) → m + n ≤ k → Moves m (counts_of a) (counts_of b) → Moves n (counts_of b) (counts_of c) → Moves k (counts_of a) (counts_of c)
moves_then m n k a b c le first then = record {
  more = omega (arith, first.more, then.more);
  more_calls = omega (arith, first.more_calls, then.more_calls);
  more_names = omega (arith, first.more_names, then.more_names);
  most_names = omega (arith, le, first.most_names, then.most_names);
  same_aside = then.same_aside ∙ first.same_aside;
  same_start = then.same_start ∙ first.same_start;
  same_budget = then.same_budget ∙ first.same_budget;
}

pub ranges_then : (xs ys : List Item) (m n o : MapState) → n ≡ record m { ranges = m.ranges ++ ranges_of xs } → o ≡ record n { ranges = n.ranges ++ ranges_of ys }
    → o ≡ record m { ranges = m.ranges ++ ranges_of (xs ++ ys) }
ranges_then xs ys m n o first then = then ∙ rw (first, filter_map-append range_of xs ys, append_assoc) refl

pub ranges_none : (m : MapState) → m ≡ record m { ranges = m.ranges ++ ranges_of [] }
ranges_none m = rw append-nil refl

pub names_of_all-append : (xs ys : List Item) → names_of_all (xs ++ ys) ≡ names_of_all xs + names_of_all ys
names_of_all-append xs ys = sum_by-append names_of xs ys

module _ {S A : Type 0} where
  pub same_room_then : (a b c : Walk S A) → SameRoom a b → SameRoom b c → SameRoom a c
  same_room_then a b c first then = record {
    header_is = then.header_is ∙ first.header_is;
    entries = then.entries ∙ first.entries;
    choice = then.choice ∙ first.choice;
    listed = then.listed ∙ first.listed;
    window = then.window ∙ first.window;
    name = then.name ∙ first.name;
  }

  pub same_entry_then : (a b c : Walk S A) → SameEntry a b → SameEntry b c → SameEntry a c
  same_entry_then a b c first then = record {
    room = same_room_then a b c first.room then.room;
    next = then.next ∙ first.next;
    current = then.current ∙ first.current;
  }

  same_entry_none : (a : Walk S A) → SameEntry a a
  same_entry_none a = record { room = record { header_is = refl; entries = refl; choice = refl; listed = refl; window = refl; name = refl }; next = refl; current = refl }

  -- ---- items

  -- what comes next is said by the choice, the directory and the sizes of an earlier walk too
  may_before : (xs : List Item) (a b c : Walk S A) → SameRoom a b → b.meter.source.size ≡ a.meter.source.size
      → MayCome b.choice b.entries.items b.meter.source.size b.name.limit (cursor_of b) xs (cursor_of c)
      → MayCome a.choice a.entries.items a.meter.source.size a.name.limit (cursor_of b) xs (cursor_of c)
  may_before xs a b c same size may =
      subst (λ z. MayCome a.choice a.entries.items z a.name.limit (cursor_of b) xs (cursor_of c)) size
      (subst (λ n. MayCome a.choice a.entries.items b.meter.source.size n (cursor_of b) xs (cursor_of c)) same.name
      (subst (λ (es : List Entry). MayCome a.choice es b.meter.source.size b.name.limit (cursor_of b) xs (cursor_of c)) (ap (λ es. es.items) same.entries)
      (subst (λ (o : Choice). MayCome o b.entries.items b.meter.source.size b.name.limit (cursor_of b) xs (cursor_of c)) same.choice may)))

  pub items_then : (xs ys : List Item) (a b c : Walk S A) (m n o : MapState) → ItemsRead xs a m b n → ItemsRead ys b n c o → ItemsRead (xs ++ ys) a m c o
  items_then xs ys a b c m n o first then =
      let all = names_of_all-append xs ys in
      record {
        mapped = then.mapped;
        same = same_entry_then a b c first.same then.same;
        ranges = ranges_then xs ys m n o first.ranges then.ranges;
        left = λ file known.
            first.left file known
            ∙ ap (give_all xs) (then.left file (first.cost.fetches.same_content ∙ known))
            ∙ ap (λ (zs : List Item). record { items = zs; fault = (current_of c file).fault }) (sym (append_assoc xs ys (current_of c file).items));
        counts = moves_then (names_of_all xs) (names_of_all ys) (names_of_all (xs ++ ys)) a.meter b.meter c.meter (omega (arith, all)) first.counts then.counts;
        names = omega (arith, all, first.names, then.names);
        named = names_more xs ys a.meter.fetched b.meter.fetched c.meter.fetched first.named then.named;
        cost = HasCost-then (unread_bytes a) (unread_bytes b) (unread_bytes c) a.meter.source b.meter.source c.meter.source xs ys first.cost then.cost;
        rests = omega (arith, first.rests, then.rests);
        may = may_then a.choice a.entries.items a.meter.source.size a.name.limit (cursor_of a) (cursor_of b) (cursor_of c) xs ys first.may
            (may_before ys a b c first.same.room first.cost.fetches.same_size then.may);
      }

  -- none was read
  pub no_items : (a : Walk S A) (m : MapState) → IsMapped a m → ItemsRead [] a m a m
  no_items a m old = record {
    mapped = old;
    same = same_entry_none a;
    ranges = ranges_none m;
    left = λ file known. refl;
    counts = Moves-none 0 a.meter;
    names = omega arith;
    named = names_none 1 a.meter.fetched;
    cost = HasCost-none (unread_bytes a) a.meter.source;
    rests = omega arith;
    may = may_none a.choice a.entries.items a.meter.source.size a.name.limit (cursor_of a);
  }

  -- the head was read, and no item
  pub head_items : (a b : Walk S A) (m : MapState) → IsMapped a m → a.stage ≡ Head → HeadRead a b → HasRoom (free_of m) 0 b → ItemsRead [] a m b m
  head_items a b m old at head room =
      let books = head.books in
      record {
        mapped = kept a b m old head.sound (same_file _ a b books.fetches head.same.room books.more) room (bounded_then a b old.bounded head.paid head.same.room books.fetches.same_size);
        same = head.same;
        ranges = ranges_none m;
        left = λ file known. sym (head.left file known);
        counts = record {
          more = books.more;
          more_calls = books.more_calls;
          more_names = omega (arith, books.same_names);
          most_names = omega (arith, books.same_names);
          same_aside = books.same_aside;
          same_start = books.same_start;
          same_budget = books.same_budget;
        };
        names = omega (arith, books.same_names);
        named = names_later 1 [] a.meter.fetched a.meter.fetched b.meter.fetched (names_none 1 a.meter.fetched) books.more;
        cost = record {
          fetches = FetchesAtMost-within _ (unread_bytes a + items_cost a.meter.source.size [] - unread_bytes b) a.meter.source b.meter.source (omega arith) books.fetches;
          within = omega (arith, head.owes);
        };
        rests = omega (arith, head.falls);
        may = record { behind = cursor_of a; come = refl; reads = headed (rw at refl) head.begins head.same.next head.same.current };
      }

  -- one record was read
  pub one_item : (a b : Walk S A) (m n : MapState) (step : Step) (x : Item) → IsMapped a m → stop_of a.stage ≡ None → StepTaken a (Ok (Some step)) b → RecordGiven a step b
      → IsItemOf b.meter.source.size b.name.items step x → n ≡ record m { ranges = m.ranges ++ ranges_of (x ∷ []) } → OneRead a m b n
  one_item a b m n step x old going taken given item pushed =
      let e = taken.answered in
      let size = e.fetches.same_size in
      let held = e.given.held in
      let names : b.meter.names ≡ a.meter.names + names_of x =
      names_given b.meter.source.size b.name.items _ step x a.meter.names b.meter.names held.1 item.item (omega (arith, old.bounded.names)) e.named in
      let one = sum_by-cons names_of (plain x) [] in
      let same = names_of-plain x in
      record {
        item = plain x;
        read = record {
          mapped = rw pushed (mapped a b m (ranges_of (x ∷ [])) _ old e.sound (same_file _ a b e.fetches e.same e.counts.more) (taken.room (free_of m) old.room)
              (bounded_then a b old.bounded e.paid e.same size)
              (ranges_of-within _ x (rw size at item.placed))
              (ranges-given b.meter.source.size b.name.items step x item.item));
          same = given.same;
          ranges = pushed ∙ ap (λ rs. record m { ranges = m.ranges ++ rs }) (sym (ranges_of-plain x));
          left = λ file known.
              given.left file known
              ∙ ap (λ (y : Item). give_all (y ∷ []) (current_of b file)) (rw size at (sym item.item));
          counts = record {
            more = e.counts.more;
            more_calls = e.counts.more_calls;
            more_names = e.counts.more_names;
            most_names = omega (arith, names, one, same);
            same_aside = e.counts.same_aside;
            same_start = e.counts.same_start;
            same_budget = e.counts.same_budget;
          };
          names = omega (arith, names, one, same);
          named =
              let begins : (summary_of x).stream ≡ stream_told step = begins_as b.meter.source.size b.name.items step x item.item in
              let spent : item_cost x ≡ step_cost step = item_cost-step b.meter.source.size b.name.items _ step x held.0 held.1 item.item in
              named_one (standpoint_of a) x b.meter.fetched (unread_bytes b) (rw (begins, spent) e.costs);
          cost =
              let z = a.meter.source.size in
              let fits = held.0 in
              let begins : (summary_of x).stream ≡ stream_told step = begins_as b.meter.source.size b.name.items step x item.item in
              let spent : item_cost x ≡ step_cost step = item_cost-step b.meter.source.size b.name.items _ step x fits held.1 item.item in
              HasCost-one (unread_bytes a) (unread_bytes b) a.meter.source b.meter.source x
              (FetchesAtMost-within _ (unread_bytes a + stream_begun z (summary_of x).stream + item_cost x - unread_bytes b) a.meter.source b.meter.source (omega (arith, spent, ap (stream_begun z) begins)) e.fetches)
              (subst (λ o. IsUnreadBy z o (unread_bytes a) (unread_bytes b)) (sym begins) e.given.begins);
          rests = e.rests;
          may = record {
            behind = cursor_of b;
            come = (
              cursor_of b,
              (
                record {
                  read = step;
                  told = rw (item.item, size) (step-told a.meter.source.size b.name.items step held.0);
                  follows = e.follows going;
                },
                refl,
              ),
            );
            reads = stays refl;
          };
        };
        stage = given.stage;
        falls = e.given.falls;
      }

  -- a fault was met
  pub fault_read : (a b : Walk S A) (m : MapState) (f : ListFault) → IsMapped a m → Answered a (Err f) b → HasRoom (free_of m) 0 b → FaultRead a m f b m
  fault_read a b m f old e room = record {
    answered = e;
    mapped = kept a b m old e.sound (same_file _ a b e.fetches e.same e.counts.more) room (bounded_then a b old.bounded e.paid e.same e.fetches.same_size);
    same = refl;
  }

-- ---- the fault of an entry

-- a fault that is next in what is left of an entry and the entries behind it is that of the entry, since each of those
-- begins with an item
listed_begins : (F : List ℕ) (limit : ℕ) (xs : List Numbered) → (all_joined (map (entry_listing F limit) xs)).items ≡ [] → (all_joined (map (entry_listing F limit) xs)).fault ≡ None
listed_begins F limit [] none = refl
listed_begins F limit (x ∷ xs) none = begun (entry_listing F limit x).fault refl where
  begun : (fault : Option ListFault) → (entry_listing F limit x).fault ≡ fault → (all_joined (map (entry_listing F limit) (x ∷ xs))).fault ≡ None
  begun None same = let no = rw same at none in absurd (cc)
  begun (Some f) same = let no = rw same at none in absurd (cc)

joined_fault : (items : List Item) (fault : Option ListFault) (rest : Run) (f : ListFault) → (rest.items ≡ [] → rest.fault ≡ None)
    → joined (record { items = items; fault = fault }) rest ≡ only_fault f → record { items = items; fault = fault } ≡ only_fault f
joined_fault [] None rest f begins same =
    let none : rest.items ≡ [] = ap (λ (run : Run). run.items) same in
    let fault : rest.fault ≡ Some f = ap (λ (run : Run). run.fault) same in
    let no = begins none in absurd (cc)
joined_fault (x ∷ xs) None rest f begins same =
    let none : x ∷ (xs ++ rest.items) ≡ [] = ap (λ (run : Run). run.items) same in absurd (cc)
joined_fault items (Some g) rest f begins same = same

stage_by-ends : (f : ListFault) (kind : FaultKind) → (IsUnobtained kind → ⊥) → ends (stage_by kind f) ≡ false
stage_by-ends f (Source fault) not = absurd (not tt)
stage_by-ends f Budget not = absurd (not tt)
stage_by-ends f _ not = refl

through-ends : (stage : Stage) → IsThrough stage → ends stage ≡ false
through-ends Between through = refl
through-ends (Records kind shape index offset) through = refl
through-ends _ through = absurd through

-- no record is left there
through-end : (stage : Stage) → IsThrough stage → IsAtEnd (standing_of stage)
through-end Between through = tt
through-end (Records kind shape index offset) through = omega (arith, through)
through-end _ through = absurd through

spent_by : (z : ℕ) (c d : Cursor) → IsReadOn z c d → IsAtEnd d.standing → IsSpent z c
spent_by z c d (stays same) end = spent.read (subst (λ (n : Cursor). IsAtEnd n.standing) same end)
spent_by z c d (headed at is passed current) end = spent.empty at d.standing is end

maybe_bad : (kind : FaultKind) → (IsUnobtained kind → ⊥) → maybe_name kind ≡ faulty_name kind
maybe_bad (Source fault) not = absurd (not tt)
maybe_bad Budget not = absurd (not tt)
maybe_bad _ not = refl

module _ {S A : Type 0} where
  pub fault_left : (a b : Walk S A) (f : ListFault) (file : List ℕ) → Answered a (Err f) b → a.meter.source.store.content ≡ Some file → (IsUnobtained f.kind → ⊥)
      → current_of a file ≡ only_fault f
  fault_left a b f file e known not =
      let left = current_of a file in
      joined_fault left.items left.fault (rest_of a file) f (listed_begins file a.name.limit (chosen_from file a.choice a.next)) (e.listing file known not).0

-- ---- an entry that was judged

module _ {S A : Type 0} (items : List Item) (a b : Walk S A) (m n : MapState) (read : ItemsRead items a m b n) where
  -- no record is left
  pub end_judged : IsThrough b.stage → EntryJudged a m (Ok None) b n
  end_judged through = record {
    items = items;
    mapped = read.mapped;
    same = read.same;
    ranges = read.ranges;
    left = λ file known.
        read.left file known
        ∙ ap (give_all items) (stage-through file b.name.limit (b.next - 1) b.current b.stage through)
        ∙ ap (λ (xs : List Item). record { items = xs; fault = None }) (append-nil items);
    counts = moves_then (names_of_all items) 0 (names_of_all items + 0) a.meter b.meter b.meter (omega arith) read.counts (Moves-none 0 b.meter);
    names = omega (arith, read.names);
    named = read.named;
    fetches = FetchesAtMost-within _ (unread_bytes a + items_cost a.meter.source.size items + 0) a.meter.source b.meter.source (omega arith) read.cost.fetches;
    at_end = (through-ends b.stage through, tt);
    rests = read.rests;
    may = record { items = items; behind = read.may.behind; come = read.may.come; ends = spent_by _ read.may.behind (cursor_of b) read.may.reads (through-end b.stage through) };
  }

  module _ (c : Walk S A) (o : MapState) (f : ListFault) (going : stop_of b.stage ≡ None) (met : FaultRead b n f c o) where
    fetched : FetchesAtMost (unread_bytes a + items_cost a.meter.source.size items + bad_name_cost a.name.limit f.kind) a.meter.source c.meter.source
    fetched =
        let limit : bad_name_cost b.name.limit f.kind ≡ bad_name_cost a.name.limit f.kind = ap (λ n. bad_name_cost n f.kind) read.same.room.name in
        FetchesAtMost-within _ (unread_bytes a + items_cost a.meter.source.size items + bad_name_cost a.name.limit f.kind) a.meter.source c.meter.source (omega (arith, limit, read.cost.within))
        (fetches_then _ _ a.meter.source b.meter.source c.meter.source read.cost.fetches met.answered.fetches)

    here : SameEntry b c
    here = record { room = met.answered.same; next = met.answered.passed; current = met.answered.current }

    follows : Follows a.choice a.entries.items a.meter.source.size a.name.limit (cursor_of b) (Err f) (cursor_of c)
    follows =
        rw (sym read.same.room.choice, sym (ap (λ es. es.items) read.same.room.entries), sym read.cost.fetches.same_size, sym read.same.room.name) (met.answered.follows going)

    -- a fault of the file stands behind the items
    bad_judged : (IsUnobtained f.kind → ⊥) → EntryJudged a m (Ok (Some f)) c o
    bad_judged not =
        let e = met.answered in
        let named = (e.met going).named in
        let most = maybe_bad f.kind not in
        let small = read.mapped.bounded.names in
        record {
          items = items;
          mapped = rw met.same met.mapped;
          same = same_entry_then a b c read.same here;
          ranges = met.same ∙ read.ranges;
          left = λ file known.
              read.left file known
              ∙ ap (give_all items) (fault_left b c f file e (read.cost.fetches.same_content ∙ known) not)
              ∙ ap (λ (xs : List Item). record { items = xs; fault = Some f }) (append-nil items);
          counts = moves_then (names_of_all items) (faulty_name f.kind) (names_of_all items + faulty_name f.kind) a.meter b.meter c.meter (omega arith) read.counts (record {
            more = e.counts.more;
            more_calls = e.counts.more_calls;
            more_names = e.counts.more_names;
            most_names = omega (arith, named.1, most);
            same_aside = e.counts.same_aside;
            same_start = e.counts.same_start;
            same_budget = e.counts.same_budget;
          });
          names = omega (arith, read.names, named.0, small, faulty_most f.kind);
          named = names_later 1 items a.meter.fetched b.meter.fetched c.meter.fetched read.named e.counts.more;
          fetches = fetched;
          at_end = (rw e.stage (stage_by-ends f f.kind not), (omega (arith, (e.met going).number, e.passed), not));
          rests = omega (arith, read.rests, e.rests);
          may = record {
            items = items;
            behind = read.may.behind;
            come = read.may.come;
            ends = (cursor_of c, follows_read a.choice a.entries.items a.meter.source.size a.name.limit read.may.behind (cursor_of b) (Err f) (cursor_of c) read.may.reads follows);
          };
        }

    -- or the store failed
    failed_judged : IsUnobtained f.kind → EntryJudged a m (Err f) c o
    failed_judged of =
        let e = met.answered in
        let told = e.met going in
        let k = read.cost.fetches in
        record {
          items = items;
          mapped = rw met.same met.mapped;
          same = same_entry_then a b c read.same here;
          ranges = met.same ∙ read.ranges;
          left = λ file known. ((current_of b file).items, ap (λ (run : Run). run.items) (read.left file known));
          counts = moves_then (names_of_all items) (maybe_name f.kind) (names_of_all items + maybe_name f.kind) a.meter b.meter c.meter (omega arith) read.counts (record {
            more = e.counts.more;
            more_calls = e.counts.more_calls;
            more_names = e.counts.more_names;
            most_names = told.named.1;
            same_aside = e.counts.same_aside;
            same_start = e.counts.same_start;
            same_budget = e.counts.same_budget;
          });
          names = omega (arith, read.names, e.counts.more_names);
          named = names_later 1 items a.meter.fetched b.meter.fetched c.meter.fetched read.named e.counts.more;
          fetches = fetched;
          at_end = record {
            of = of;
            stage = e.stage;
            told = rw here.current (told_in_later b.current f _ a.meter.source b.meter.source c.meter.source k told.told);
            number = told.number ∙ sym here.next;
            next = some_fetch (standpoint_of b) (standpoint_of c) f.kind f.offset f.size _ e.fetches.same_content e.fetches.same_size e.same.window e.same.name here.current told.next;
            unreliable = λ file good. e.good file (IsGood-after _ a.meter.source b.meter.source file k good);
          };
          rests = omega (arith, read.rests, e.rests);
          may = tt;
        }

    judged_at : (kind : FaultKind) → f.kind ≡ kind → EntryJudged a m (judged_by kind f) c o
    judged_at (Source fault) is = failed_judged (rw is tt)
    judged_at Budget is = failed_judged (rw is tt)
    judged_at _ is = bad_judged (λ of. rw is at of)

    pub fault_judged : EntryJudged a m (judged_by f.kind f) c o
    fault_judged = judged_at f.kind refl
