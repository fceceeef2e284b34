-- What a command reads beside its listing, and over which lister.
use Rattle.std.proofs.Common.{◌≡◌, ◌≤◌, ◌∙◌, ◌+◌, ◌*◌, ℕ, Bool, List, [], Option, Some, None, Err, true, false, ap, arith, length, refl, subst, sym}
use Rattle.std.specs.Prelude.{min, slice_get, take, drop}
use Rattle.std.specs.Option.{option_map}
use Rattle.std.proofs.lemmas.List.{take-append-drop}
use Rattle.std.proofs.lemmas.List.Sums.{sum_by-append, sum_by-cons}
use Rattle.mdmp_source.specs.Count.{raised}
use Rattle.mdmp_source.specs.Range.{IsInside}
use Rattle.mdmp_source.specs.Source.{SourceState}
use Rattle.mdmp_source.specs.Store.{StoreState}
use Rattle.mdmp_source.specs.declared.location.Location.{Location}
use Rattle.mdmp_wire.specs.HeaderFault.{header_fault_of}
use Rattle.mdmp_wire.specs.declared.entry.Entry.{Entry}
use Rattle.mdmp_wire.specs.declared.header.Header.{Header}
use Rattle.mdmp_lister.specs.declared.choice.Choice.{Choice}
use Rattle.mdmp_lister.specs.declared.choice.Choice.TheVariants.{All}
use Rattle.mdmp_lister.specs.CodeView.{AreFetched, codeview_head, codeview_head_of, fetched_behind}
use Rattle.mdmp_lister.specs.declared.codeview.CodeViewBytes.{CodeViewBytes}
use Rattle.mdmp_lister.specs.declared.fault.FaultKind.{FaultKind}
use Rattle.mdmp_lister.specs.declared.fault.FaultKind.TheVariants as kinds
use Rattle.mdmp_lister.specs.declared.fault.ListFault.{ListFault}
use Rattle.mdmp_lister.specs.declared.item.Item.{Item}
use Rattle.mdmp_lister.specs.declared.limits.Limits.{Limits}
use Rattle.mdmp_lister.specs.declared.meter.Amount.{Amount}
use Rattle.mdmp_lister.specs.Format.Directory.{IsDirectory}
use Rattle.mdmp_lister.specs.Format.Item.{plain}
use Rattle.mdmp_lister.specs.Format.Listing.{Run, listing, nothing}
use Rattle.mdmp_lister.specs.Format.Refusal.{most_ranges}
use Rattle.mdmp_lister.specs.Lister.{IsNewLister, IsSameLister, ListerState, Rooms, tail}
use Rattle.mdmp_lister.specs.Memory.{leaving}
use Rattle.mdmp_engines.specs.declared.list.ModuleSymbols.{ModuleSymbols}
use Rattle.mdmp_engines.specs.Engines.{IsOpened, Pace}
use Rattle.mdmp_engines.specs.ReadThrough.{Beside, IsListerOf, IsSameRun, KeepsBeside, list_beside, source_over}
use Rattle.mdmp_engines.specs.Runs.{ReadsLeft, ReadsNext, RestsAside}
use Rattle.mdmp_engines.specs.Symbols.{codeview_taken, symbols_bytes, symbols_of, symbols_read, symbols_taken, taken_bytes}
use Rattle.mdmp_engines.specs.Telling.{listing_told, told_by}
use Rattle.mdmp_engines.specs.declared.fault.ToolFault.{ToolFault}
use Rattle.mdmp_engines.specs.declared.fault.ToolFault.TheVariants.{List as BadList, AsideLimit}
use Rattle.mdmp_engines.proofs.PlainLines.{symbols_of-plain}
use Rattle.mdmp_engines.proofs.Symbols.{first_then}

-- ---- the lister of a run

-- it is the one that was opened, however much it has read since
pub run_opened : (limits under : Limits) (room : ℕ) (choice : Choice) (pace : Pace) (held : ℕ) (aside : Option ℕ) (beside : Beside) (old : SourceState) (u v : ListerState) → under ≡ leaving room limits → IsSameRun u v
    → IsNewLister old choice under u → IsListerOf (record { limits = limits; choice = choice; pace = pace; held = held; aside = aside; beside = beside }) old v
run_opened limits under room choice pace held aside beside old u v is same new = record {
  asked = record {
    choice_is = same.choice ∙ new.list.asked.choice_is;
    limit_is = same.limit ∙ new.list.asked.limit_is ∙ ap (λ (l : Limits). l.name) is;
    window_room = ap (λ (r : Rooms). r.window) same.rooms ∙ new.list.asked.window_room ∙ ap (λ (l : Limits). l.window) is;
    entry_room = ap (λ (r : Rooms). r.entries) same.rooms ∙ new.list.asked.entry_room ∙ ap (λ (h : Header). h.number_of_streams) (sym same.header_is);
  };
  read = record {
    header_is = λ file known. same.header_is ∙ new.list.read.header_is file known;
    directory = λ file known. subst (IsDirectory file) (sym same.entries) (new.list.read.directory file known);
    checked = subst (λ (h : Header). header_fault_of h ≡ None) (sym same.header_is) new.list.read.checked;
    inside = subst (λ (h : Header). IsInside h.stream_directory_rva (12 * h.number_of_streams) old.size) (sym same.header_is) new.list.read.inside;
    count = ap (λ (es : List Entry). length es) same.entries ∙ new.list.read.count ∙ ap (λ (h : Header). h.number_of_streams) (sym same.header_is);
  };
  range_room = λ file known. ap (λ (r : Rooms). r.ranges) same.rooms ∙ new.range_room file known;
  few_ranges = subst (λ (r : Rooms). r.ranges ≤ most_ranges) (sym same.rooms) new.few;
}

-- ---- a source that is gone

pub source_is : (source : SourceState) (store : StoreState) → source.store ≡ store → source.size ≡ source.store.size → source.fetched ≡ 0 → source.calls ≡ 0 → source.fault ≡ None → source ≡ source_over store
source_is source store is size fetched calls fault =
    let sized : source.size ≡ store.size = size ∙ ap (λ (s : StoreState). s.size) is in
    λ i. record { store = is i; size = sized i; fetched = fetched i; calls = calls i; fault = fault i }

-- ---- CodeView records

read_most : (limit : ℕ) (symbols : Option ModuleSymbols) → symbols_read limit symbols ≤ 24 + limit
read_most limit None = omega arith
read_most limit (Some of) = omega arith

-- so many bytes more were read, of which there are no more than the record has
pub read_more : (old cost n new : ℕ) → n ≤ cost → new ≤ old + n → new ≤ old + cost
read_more old cost n new few more = omega (arith, few, more)

-- nothing was read
pub aside_rests : (a b : Amount) → b ≡ a → b.bytes ≤ a.bytes
aside_rests a b is = let same : b.bytes ≡ a.bytes = ap (λ (x : Amount). x.bytes) is in omega (arith, same)

pub ReadsNext-none : (pdb : Bool) (u v : ListerState) → v.counts.aside ≡ u.counts.aside → ReadsNext pdb u v
ReadsNext-none pdb u v is =
    let same : v.counts.aside.bytes ≡ u.counts.aside.bytes = ap (λ (a : Amount). a.bytes) is in
    record { most = omega (arith, same); none = λ off. omega (arith, same); known = λ left given. omega (arith, same) }

-- the record of the item that was given
pub ReadsNext-record : (pdb : Bool) (u v w : ListerState) (x : Item) (symbols : Option ModuleSymbols) → IsSameLister u v → symbols ≡ symbols_of pdb x
    → ((left : Run) → u.left ≡ Some left → slice_get left.items 0 ≡ Some (plain x)) → w.counts.aside.bytes ≤ v.counts.aside.bytes + symbols_read v.limit symbols → ReadsNext pdb u w
ReadsNext-record pdb u v w x symbols same is first read =
    let before : v.counts.aside.bytes ≡ u.counts.aside.bytes = ap (λ (a : Amount). a.bytes) same.aside in
    let more : w.counts.aside.bytes ≤ u.counts.aside.bytes + symbols_read u.limit symbols = rw (before, same.limit) at read in
    record {
      most = let few = read_most u.limit symbols in omega (arith, more, few);
      none = λ off.
          let nothing : symbols_read u.limit symbols ≡ 0 = ap (symbols_read u.limit) (is ∙ ap (λ (b : Bool). symbols_of b x) off) in omega (arith, more, nothing);
      known = λ left given.
          let cost : symbols_bytes pdb u.limit (take 1 left.items) ≡ symbols_read u.limit symbols + 0 =
          ap (symbols_bytes pdb u.limit) (first_then (plain x) left.items (first left given))
          ∙ sum_by-cons (λ (item : Item). symbols_read u.limit (symbols_of pdb item)) (plain x) []
          ∙ ap (λ (s : Option ModuleSymbols). symbols_read u.limit s + 0) (symbols_of-plain pdb x ∙ sym is) in
          omega (arith, more, cost);
    }

-- ---- a record that was read

-- what was fetched of one, by its first bytes
pub taken_read : (F : List ℕ) (at : Location) (room : ℕ) (bytes : CodeViewBytes) → AreFetched at room bytes.head (length bytes.rest.now) bytes.size → codeview_head bytes ≡ codeview_head_of F at
    → min at.size 24 + length bytes.rest.now ≡ codeview_taken F room at
taken_read F at room bytes fetched head =
    let first : take (min at.size 24) bytes.head ≡ codeview_head_of F at = subst (λ n. take (min n 24) bytes.head ≡ codeview_head_of F at) fetched.size_is head in
    ap (λ n. min at.size 24 + n) (fetched.rest_is ∙ ap (λ (h : List ℕ). fetched_behind h at.size room) first)

-- it is that of the next item
pub taken_next : (F : List ℕ) (pdb : Bool) (u v w : ListerState) (x : Item) (symbols : Option ModuleSymbols) (left : Run) → IsSameLister u v → symbols ≡ symbols_of pdb x
    → slice_get left.items 0 ≡ Some (plain x) → raised v.counts.aside.bytes (symbols_taken F v.limit symbols) ≤ w.counts.aside.bytes
    → raised u.counts.aside.bytes (taken_bytes F pdb u.limit (take 1 left.items)) ≤ w.counts.aside.bytes
taken_next F pdb u v w x symbols left same is first read =
    let before : v.counts.aside.bytes ≡ u.counts.aside.bytes = ap (λ (a : Amount). a.bytes) same.aside in
    let more : raised u.counts.aside.bytes (symbols_taken F u.limit symbols) ≤ w.counts.aside.bytes = rw (before, same.limit) at read in
    let cost : taken_bytes F pdb u.limit (take 1 left.items) ≡ symbols_taken F u.limit symbols + 0 =
    ap (taken_bytes F pdb u.limit) (first_then (plain x) left.items first)
    ∙ sum_by-cons (λ (item : Item). symbols_taken F u.limit (symbols_of pdb item)) (plain x) []
    ∙ ap (λ (s : Option ModuleSymbols). symbols_taken F u.limit s + 0) (symbols_of-plain pdb x ∙ sym is) in
    omega (arith, more, cost)

-- no item has none
pub taken_end : (F : List ℕ) (pdb : Bool) (u v : ListerState) (left : Run) → v.counts.aside ≡ u.counts.aside → left ≡ nothing → raised u.counts.aside.bytes (taken_bytes F pdb u.limit (take 1 left.items)) ≤ v.counts.aside.bytes
taken_end F pdb u v left same none =
    let before : v.counts.aside.bytes ≡ u.counts.aside.bytes = ap (λ (a : Amount). a.bytes) same in
    let empty : taken_bytes F pdb u.limit (take 1 left.items) ≡ 0 = rw none refl in
    omega (arith, before, empty)

-- ---- a list that ends there

pub rests_fault : (T U : Type 0) (f : ToolFault) (u v w : ListerState) → v.counts.aside ≡ u.counts.aside → RestsAside {T = T} v (Err f) w → RestsAside {T = U} u (Err f) w
rests_fault T U (BadList fault) u v w same rests = rests ∙ same
rests_fault T U (AsideLimit offset size) u v w same rests = rests ∙ same
rests_fault T U f u v w same rests = tt

pub rests_listing : (T : Type 0) (f : ListFault) (u v : ListerState) → v.counts.aside ≡ u.counts.aside → RestsAside {T = T} u (Err (listing_told f)) v
rests_listing T f u v same = by f.kind where
  by : (kind : FaultKind) → RestsAside {T = T} u (Err (told_by kind f)) v
  by (kinds.Source fault) = tt
  by kinds.Budget = tt
  by kind = same

-- those of some items, and then of the rest
bytes_split : (pdb : Bool) (limit : ℕ) (xs : List Item) → symbols_bytes pdb limit (take 1 xs) + symbols_bytes pdb limit (drop 1 xs) ≡ symbols_bytes pdb limit xs
bytes_split pdb limit xs =
    sym (sum_by-append (λ (item : Item). symbols_read limit (symbols_of pdb item)) (take 1 xs) (drop 1 xs)) ∙ ap (symbols_bytes pdb limit) (take-append-drop 1 xs)

-- no more was read than the records of the items that were given
pub record HasRead (pdb : Bool) (u v : ListerState) : Type 0 where
  pub none : pdb ≡ false → v.counts.aside.bytes ≤ u.counts.aside.bytes
  pub known : (run : Run) → u.left ≡ Some run
      → (left : Run) × ((v.left ≡ Some left) × (v.counts.aside.bytes + symbols_bytes pdb u.limit left.items ≤ u.counts.aside.bytes + symbols_bytes pdb u.limit run.items))

pub HasRead-none : (pdb : Bool) (u : ListerState) → HasRead pdb u u
HasRead-none pdb u = record { none = λ off. omega arith; known = λ run is. (run, (is, omega arith)) }

-- what the next item makes of that
read_next : (pdb : Bool) (u v w : ListerState) → v.limit ≡ u.limit → HasRead pdb u v → ReadsNext pdb v w → (run : Run) → u.left ≡ Some run
    → (was : Run) × ((v.left ≡ Some was) × (w.counts.aside.bytes + symbols_bytes pdb u.limit (drop 1 was.items) ≤ u.counts.aside.bytes + symbols_bytes pdb u.limit run.items))
read_next pdb u v w limit read next run is =
    let was = read.known run is in
    let split = bytes_split pdb u.limit was.0.items in
    let before = was.1.1 in
    let more : w.counts.aside.bytes ≤ v.counts.aside.bytes + symbols_bytes pdb u.limit (take 1 was.0.items) = rw limit at (next.known was.0 was.1.0) in
    (was.0, (was.1.0, omega (arith, split, before, more)))

pub HasRead-next : (pdb : Bool) (u v w : ListerState) → v.limit ≡ u.limit → HasRead pdb u v → ReadsNext pdb v w → w.left ≡ option_map tail v.left → HasRead pdb u w
HasRead-next pdb u v w limit read next left = record {
  none = λ off. let before = read.none off in let now = next.none off in omega (arith, before, now);
  known = λ run is. let was = read_next pdb u v w limit read next run is in (tail was.0, (left ∙ ap (option_map tail) was.1.0, was.1.1));
}

pub HasRead-end : (pdb : Bool) (u v w : ListerState) → v.limit ≡ u.limit → HasRead pdb u v → ReadsNext pdb v w → ReadsLeft pdb u w
HasRead-end pdb u v w limit read next = record {
  none = λ off. let before = read.none off in let now = next.none off in omega (arith, before, now);
  known = λ run is. let within = (read_next pdb u v w limit read next run is).1.1 in omega (arith, within);
}

pub ReadsLeft-none : (pdb : Bool) (u : ListerState) → ReadsLeft pdb u u
ReadsLeft-none pdb u = record { none = λ off. omega arith; known = λ run is. omega arith }

-- a list has read no more beside its listing
pub KeepsBeside-list : (pdb : Bool) (u v : ListerState) → IsOpened All u → IsSameRun u v → v.source.store.content ≡ u.source.store.content → ReadsLeft pdb u v → KeepsBeside (list_beside pdb) v
KeepsBeside-list true u v opened same content read = λ file known.
    let none = opened.aside in
    let most = read.known (listing file All u.limit) (opened.left file (sym content ∙ known)) in
    rw (same.limit, same.choice, opened.choice_is) (omega (arith, most, none))
KeepsBeside-list false u v opened same content read = let few = read.none refl in let none = opened.aside in omega (arith, few, none)
