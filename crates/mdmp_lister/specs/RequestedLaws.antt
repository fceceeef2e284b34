-- What requests fetch of a known file goes by the items that they give.
use Rattle.std.proofs.Common.{◌≡◌, ◌+◌, ◌*◌, ◌-◌, ◌∙◌, ℕ, zero, suc, List, [], ◌∷◌, Option, Some, None, Result, Ok, Err, ap, arith, refl, subst, sym}
use Rattle.mdmp_source.specs.Count.{raised}
use Rattle.mdmp_wire.specs.declared.any_record.AnyRecord.{AnyRecord}
use Rattle.mdmp_wire.specs.declared.any_record.AnyRecord.TheVariants as any
use Rattle.mdmp_wire.specs.declared.entry.Entry.{Entry}
use Rattle.mdmp_lister.specs.declared.choice.Choice.{Choice}
use Rattle.mdmp_lister.specs.declared.fault.Fault.{Fault}
use Rattle.mdmp_lister.specs.declared.fault.ListFault.{ListFault}
use Rattle.mdmp_lister.specs.declared.item.Item.{Item}
use Rattle.mdmp_lister.specs.declared.item.Item.TheVariants as items
use Rattle.mdmp_lister.specs.declared.item.StreamItem.{StreamItem}
use Rattle.mdmp_lister.specs.declared.kind.StreamKind.{StreamKind}
use Rattle.mdmp_lister.specs.declared.name.Name.{Name}
use Rattle.mdmp_lister.specs.declared.name.Name.TheVariants as names
use Rattle.mdmp_lister.specs.declared.shape.Shape.{Shape}
use Rattle.mdmp_lister.specs.declared.step.Step.{Step}
use Rattle.mdmp_lister.specs.declared.step.Step.TheVariants as step
use Rattle.mdmp_lister.specs.Costs.{IsUnreadBy, cost_of_name, item_cost}
use Rattle.mdmp_lister.specs.Following.{Cursor, Follows, GivesChosenEntry, GivesCurrentRecord, GoesOn, IsBegun, Standing, mapped, records_given, standing_by}
use Rattle.mdmp_lister.specs.Following as following
use Rattle.mdmp_lister.specs.Format.Item.{item_of, plain}
use Rattle.mdmp_lister.specs.Format.Kind.{kind_of, record_size}
use Rattle.mdmp_lister.specs.Format.Name.{plain_name}
use Rattle.mdmp_lister.specs.Format.Shape.{shape_of}
use Rattle.mdmp_lister.specs.Format.Summary.{entry_begun, summary_of}
use Rattle.mdmp_lister.specs.Lister.{AnswersNext, ListerState, NextLeaves, Rooms, cursor_in, standpoint_in}
use Rattle.mdmp_lister.specs.NextFetch.{IsItemPaid, IsRecordPassed, IsThroughPaid, Standpoint, head_left, head_takes, record_leaves, record_takes, stream_takes, while_begun, window_leaves}
use Rattle.mdmp_lister.specs.Requested.{AreRequested, IsRequested, OnlyReadsAside, RunRequests}
use Rattle.mdmp_lister.specs.Step.{TellsAnswer, TellsItem, stream_told}

-- ---- items

pub stream_plain : (x : Item) → (summary_of (plain x)).stream ≡ (summary_of x).stream
stream_plain (items.Stream x) = refl
stream_plain _ = refl

name_plain : (name : Name) → cost_of_name (plain_name name) ≡ cost_of_name name
name_plain names.None = refl
name_plain (names.Units units) = refl
name_plain (names.Long bytes) = refl

cost_plain : (x : Item) → item_cost (plain x) ≡ item_cost x
cost_plain (items.Module x) = name_plain x.name
cost_plain (items.Unloaded x) = name_plain x.name
cost_plain (items.System x) = name_plain x.name
cost_plain (items.ThreadName x) = name_plain x.name
cost_plain _ = refl

stream_of : (z e k offset : ℕ) (fields : AnyRecord) (name : Name) → (summary_of (item_of z e k offset fields name)).stream ≡ None
stream_of z e k offset (any.Memory fields) name = refl
stream_of z e k offset _ name = refl

-- ---- where a listing stands, as far as the next fetches go by it

-- how far the current entry was given: how many of its records, or that its head is not read
abbrev pub reach : Standing → Standing
reach (following.within given left offset) = following.within given 0 0
reach following.begun = following.begun
reach following.through = following.within 0 0 0

abbrev pub as_reached : Standpoint → Standpoint
as_reached s = record s { standing = reach s.standing }

reach-begun : (t : Standing) (n : ℕ) → while_begun (reach t) n ≡ while_begun t n
reach-begun following.begun n = refl
reach-begun (following.within given left offset) n = refl
reach-begun following.through n = refl

reach-given : (t : Standing) → records_given (reach t) ≡ records_given t
reach-given following.begun = refl
reach-given (following.within given left offset) = refl
reach-given following.through = refl

-- ---- what is fetched there

abbrev paid_through : Standpoint → ℕ
paid_through s = raised s.fetched (head_left s (kind_of s.entry.stream_type))

abbrev paid_record : Standpoint → StreamKind → (at named : ℕ) → ℕ
paid_record s kind at named = raised s.fetched (head_takes s kind + record_takes s kind at + named)

head-reached : (s : Standpoint) (kind : StreamKind) → head_takes (as_reached s) kind ≡ head_takes s kind
head-reached s kind = reach-begun s.standing _

left-reached : (s : Standpoint) (known : Option StreamKind) → head_left (as_reached s) known ≡ head_left s known
left-reached s (Some kind) = head-reached s kind
left-reached s None = refl

through-reached : (s : Standpoint) → paid_through (as_reached s) ≡ paid_through s
through-reached s = ap (raised s.fetched) (left-reached s (kind_of s.entry.stream_type))

record-reached : (s : Standpoint) (kind : StreamKind) (at named : ℕ) → paid_record (as_reached s) kind at named ≡ paid_record s kind at named
record-reached s kind at named = ap (λ n. raised s.fetched (n + stream_takes s (s.unread - n) at (record_size kind) + named)) (head-reached s kind)

leaves-reached : (s : Standpoint) (kind : StreamKind) (at : ℕ) → record_leaves (as_reached s) kind at ≡ record_leaves s kind at
leaves-reached s kind at = ap (λ n. window_leaves s.room (s.entry.location.rva + s.entry.location.size) (s.unread - n) at (record_size kind)) (head-reached s kind)

-- ---- two listings of one file that stand alike

module _ (F : List ℕ) (s t : Standpoint) (alike : as_reached s ≡ as_reached t) where
  through_alike : (m n : ℕ) → IsThroughPaid s m → IsThroughPaid t n → m ≡ n
  through_alike m n one other = one ∙ sym (through-reached s) ∙ ap paid_through alike ∙ through-reached t ∙ sym other

  module _ (known : s.content ≡ Some F) (named m a n b : ℕ) (one : IsRecordPassed s named m a) (other : IsRecordPassed t named n b) where
    entry_alike : s.entry ≡ t.entry
    entry_alike = ap (λ u. u.entry) alike

    kind_alike : one.paid.kind ≡ other.paid.kind
    kind_alike =
        let here = one.paid.record_is.kind_is in
        let there = ap (λ (e : Entry). kind_of e.stream_type) entry_alike ∙ other.paid.record_is.kind_is in
        let same : Some one.paid.kind ≡ Some other.paid.kind = sym here ∙ there in
        cc

    shape_alike : one.paid.record_is.shape ≡ other.paid.record_is.shape
    shape_alike =
        let here = one.paid.record_is.of_file F known in
        let there = other.paid.record_is.of_file F (sym (ap (λ u. u.content) alike) ∙ known) in
        let moved = ap (λ (e : Entry). shape_of F e.location.rva e.location.size one.paid.kind) entry_alike ∙ ap (shape_of F t.entry.location.rva t.entry.location.size) kind_alike in
        let same : Ok one.paid.record_is.shape ≡ Ok other.paid.record_is.shape = sym here ∙ moved ∙ there in
        cc

    given_alike : records_given s.standing ≡ records_given t.standing
    given_alike = sym (reach-given s.standing) ∙ ap (λ u. records_given u.standing) alike ∙ reach-given t.standing

    place_alike : one.paid.at ≡ other.paid.at
    place_alike =
        one.paid.record_is.at_is
        ∙ ap (λ (e : Entry). e.location.rva + one.paid.record_is.shape.first + records_given s.standing * one.paid.record_is.shape.stride) entry_alike
        ∙ ap (λ (h : Shape). t.entry.location.rva + h.first + records_given s.standing * h.stride) shape_alike
        ∙ ap (λ k. t.entry.location.rva + other.paid.record_is.shape.first + k * other.paid.record_is.shape.stride) given_alike
        ∙ sym other.paid.record_is.at_is

    fetched_alike : m ≡ n
    fetched_alike =
        one.paid.fetched_is ∙ sym (record-reached s one.paid.kind one.paid.at named)
        ∙ ap (λ u. paid_record u one.paid.kind one.paid.at named) alike ∙ record-reached t one.paid.kind one.paid.at named
        ∙ ap (λ kind. paid_record t kind one.paid.at named) kind_alike ∙ ap (λ at. paid_record t other.paid.kind at named) place_alike
        ∙ sym other.paid.fetched_is

    unread_alike : a ≡ b
    unread_alike =
        one.unread_is ∙ sym (leaves-reached s one.paid.kind one.paid.at)
        ∙ ap (λ u. record_leaves u one.paid.kind one.paid.at) alike ∙ leaves-reached t one.paid.kind one.paid.at
        ∙ ap (λ kind. record_leaves t kind one.paid.at) kind_alike ∙ ap (record_leaves t other.paid.kind) place_alike
        ∙ sym other.unread_is

-- ---- how far the current entry was given behind an item

given_shaped : (s : Standing) (offset : ℕ) (r : Result Shape Fault) → Ok s ≡ mapped (standing_by offset) r → records_given s ≡ 0
given_shaped s offset (Ok shape) is = let same : s ≡ standing_by offset shape = cc in rw same refl
given_shaped s offset (Err fault) is = absurd (cc)

-- no record was given of an entry whose head was read
pub given_begun : (z : ℕ) (e : Entry) (s : Standing) → IsBegun z e (Ok s) → records_given s ≡ 0
given_begun z e s (following.outside fault is bad) = absurd (cc)
given_begun z e s (following.opaque whole none is) = let same : s ≡ following.through = cc in rw same refl
given_begun z e s (following.shaped whole kind of shape some offset is) = given_shaped s offset shape is

abbrev pub reach_by : Option StreamItem → ℕ → Standing
reach_by (Some x) given = following.begun
reach_by None given = following.within (given + 1) 0 0

module _ (choice : Choice) (entries : List Entry) (z limit : ℕ) where
  entry_reach : (c : Cursor) (s : Step) (d : Cursor) (given : ℕ) → GivesChosenEntry choice entries z limit c s d → reach d.standing ≡ reach_by (stream_told s) given
  entry_reach c s d given gives = rw (gives.stands, gives.step_is) refl

  record_reach : (c : Cursor) (given left offset : ℕ) (s : Step) (d : Cursor) → GivesCurrentRecord choice entries z limit c given left offset s d → reach d.standing ≡ reach_by (stream_told s) given
  record_reach c given left offset s d gives = rw (gives.stands, gives.is.step_is) refl

  goes_reach : (c : Cursor) (at : Standing) (s : Step) (d : Cursor) → GoesOn choice entries z limit c at (Ok (Some s)) d → reach d.standing ≡ reach_by (stream_told s) (records_given at)
  goes_reach c following.through s d goes = entry_reach c s d 0 goes
  goes_reach c following.begun s d goes = absurd goes
  goes_reach c (following.within given zero offset) s d goes = entry_reach c s d given (goes.0 refl)
  goes_reach c (following.within given (suc left) offset) s d goes = record_reach c given (suc left) offset s d (goes.1 (omega arith))

  follows_reach : (c : Cursor) (s : Step) (d : Cursor) → Follows choice entries z limit c (Ok (Some s)) d → reach d.standing ≡ reach_by (stream_told s) (records_given c.standing)
  follows_reach c s d (following.goes_on goes) = goes_reach c c.standing s d goes
  follows_reach c s d (following.begins begun at is goes) =
      let none : records_given c.standing ≡ 0 = ap records_given begun in
      goes_reach c at s d goes ∙ ap (reach_by (stream_told s)) (given_begun z c.current at is ∙ sym none)
  follows_reach c s d (following.refuses begun fault is meets) = let never = meets.answer_is in absurd (cc)

tells_stream : (z : ℕ) (s : Step) (y : Item) → TellsItem z s y → (summary_of y).stream ≡ stream_told s
tells_stream z (step.Stream x) y told = rw told refl
tells_stream z (step.Record r) y told =
    ap (λ (x : Item). (summary_of x).stream) told.1.1 ∙ stream_of z r.entry r.index r.offset r.fields told.0

-- an item begins the entry that its step does
pub item_stream : (z : ℕ) (s : Step) (x : Item) → TellsAnswer z (Ok (Some s)) (Ok (Some (plain x))) → (summary_of x).stream ≡ stream_told s
item_stream z s x told =
    let is : told.0 ≡ plain x = let e = told.1.0 in cc in
    sym (stream_plain x) ∙ sym (ap (λ (y : Item). (summary_of y).stream) is) ∙ tells_stream z s told.0 told.1.1

pub answer_reach : (old : ListerState) (x : Item) (new : ListerState) → AnswersNext old (Ok (Some x)) new → reach new.standing ≡ reach_by (summary_of x).stream (records_given old.standing)
answer_reach old x new answers = by answers.read answers.told answers.follows where
  by : (read : Result (Option Step) ListFault) → TellsAnswer old.source.size read (Ok (Some (plain x))) → Follows old.choice old.entries old.source.size old.limit (cursor_in old) read (cursor_in new)
      → reach new.standing ≡ reach_by (summary_of x).stream (records_given old.standing)
  by (Ok None) told follows = absurd (cc)
  by (Err f) told follows = absurd (cc)
  by (Ok (Some s)) told follows =
      follows_reach old.choice old.entries old.source.size old.limit (cursor_in old) s (cursor_in new) follows
      ∙ ap (λ o. reach_by o (records_given old.standing)) (sym (item_stream old.source.size s x told))

given_alike_in : (u v : ListerState) → as_reached (standpoint_in u) ≡ as_reached (standpoint_in v) → records_given u.standing ≡ records_given v.standing
given_alike_in u v alike = sym (reach-given u.standing) ∙ ap (λ (p : Standpoint). records_given p.standing) alike ∙ reach-given v.standing

-- ---- requests for the same items

-- they stand alike, and no answer is given again
pub record StandAlike (F : List ℕ) (u v : ListerState) : Type 0 where
  pub known : u.source.store.content ≡ Some F
  pub alike : as_reached (standpoint_in u) ≡ as_reached (standpoint_in v)
  pub going : u.stop ≡ None
  pub going_too : v.stop ≡ None

-- two that stand alike, part by part
pub alike_by : (s t : Standpoint) → s.content ≡ t.content → s.size ≡ t.size → s.room ≡ t.room → s.limit ≡ t.limit → s.entry ≡ t.entry → reach s.standing ≡ reach t.standing → s.unread ≡ t.unread
    → s.fetched ≡ t.fetched → as_reached s ≡ as_reached t
alike_by s t contents sizes rooms limits entries standings unreads fetches =
    λ i. record { content = contents i; size = sizes i; room = rooms i; limit = limits i; entry = entries i; standing = standings i; unread = unreads i; fetched = fetches i }

module _ (F : List ℕ) (u v : ListerState) (so_far : StandAlike F u v) (m n : ListerState) where
  abbrev s : Standpoint
  s = standpoint_in u

  abbrev t : Standpoint
  t = standpoint_in v

  -- what is read aside changes nothing of it
  aside_alike : OnlyReadsAside u m → OnlyReadsAside v n → StandAlike F m n
  aside_alike one other = record {
    known = one.fetches.same_content ∙ so_far.known;
    alike = alike_by (standpoint_in m) (standpoint_in n)
        (one.fetches.same_content ∙ ap (λ (p : Standpoint). p.content) so_far.alike ∙ sym other.fetches.same_content)
        (one.fetches.same_size ∙ ap (λ (p : Standpoint). p.size) so_far.alike ∙ sym other.fetches.same_size)
        (ap (λ (l : ListerState). l.rooms.window) one.same ∙ ap (λ (p : Standpoint). p.room) so_far.alike ∙ sym (ap (λ (l : ListerState). l.rooms.window) other.same))
        (ap (λ (l : ListerState). l.limit) one.same ∙ ap (λ (p : Standpoint). p.limit) so_far.alike ∙ sym (ap (λ (l : ListerState). l.limit) other.same))
        (ap (λ (l : ListerState). l.current) one.same ∙ ap (λ (p : Standpoint). p.entry) so_far.alike ∙ sym (ap (λ (l : ListerState). l.current) other.same))
        (ap (λ (l : ListerState). reach l.standing) one.same ∙ ap (λ (p : Standpoint). p.standing) so_far.alike ∙ sym (ap (λ (l : ListerState). reach l.standing) other.same))
        (ap (λ (l : ListerState). l.unread) one.same ∙ ap (λ (p : Standpoint). p.unread) so_far.alike ∙ sym (ap (λ (l : ListerState). l.unread) other.same))
        (one.aside.same_fetched ∙ ap (λ (p : Standpoint). p.fetched) so_far.alike ∙ sym other.aside.same_fetched);
    going = ap (λ (l : ListerState). l.stop) one.same ∙ so_far.going;
    going_too = ap (λ (l : ListerState). l.stop) other.same ∙ so_far.going_too;
  }

  -- what was fetched for an item, and what is unread behind it
  spent_alike : (z : ℕ) (stream : Option StreamItem) (named : ℕ) → IsItemPaid s stream named m.counts.fetched m.unread → IsItemPaid t stream named n.counts.fetched n.unread
      → IsUnreadBy z stream u.unread m.unread → IsUnreadBy z stream v.unread n.unread → (m.counts.fetched ≡ n.counts.fetched) × (m.unread ≡ n.unread)
  spent_alike z (Some x) named one other here there = (through_alike F s t so_far.alike m.counts.fetched n.counts.fetched one other, here ∙ sym there)
  spent_alike z None named one other here there = (
    fetched_alike F s t so_far.alike so_far.known named m.counts.fetched m.unread n.counts.fetched n.unread one other,
    unread_alike F s t so_far.alike so_far.known named m.counts.fetched m.unread n.counts.fetched n.unread one other,
  )

  module _ (x y : Item) (same : plain x ≡ plain y) (one : NextLeaves u (Ok (Some x)) m) (other : NextLeaves v (Ok (Some y)) n)
      (here : AnswersNext u (Ok (Some x)) m) (there : AnswersNext v (Ok (Some y)) n) where
    stream_same : (summary_of y).stream ≡ (summary_of x).stream
    stream_same = sym (stream_plain y) ∙ ap (λ (i : Item). (summary_of i).stream) (sym same) ∙ stream_plain x

    cost_same : item_cost y ≡ item_cost x
    cost_same = sym (cost_plain y) ∙ ap item_cost (sym same) ∙ cost_plain x

    size_same : v.source.size ≡ u.source.size
    size_same = sym (ap (λ (p : Standpoint). p.size) so_far.alike)

    spent_same : (m.counts.fetched ≡ n.counts.fetched) × (m.unread ≡ n.unread)
    spent_same = spent_alike u.source.size (summary_of x).stream (item_cost x) one.spends.costs
        (subst (λ o. IsItemPaid t o (item_cost x) n.counts.fetched n.unread) stream_same (subst (λ c. IsItemPaid t (summary_of y).stream c n.counts.fetched n.unread) cost_same other.spends.costs))
        one.spends.unread
        (subst (λ o. IsUnreadBy u.source.size o v.unread n.unread) stream_same (subst (λ z. IsUnreadBy z (summary_of y).stream v.unread n.unread) size_same other.spends.unread))

    item_alike : StandAlike F m n
    item_alike = record {
      known = one.spends.fetches.same_content ∙ so_far.known;
      alike = alike_by (standpoint_in m) (standpoint_in n)
          (one.spends.fetches.same_content ∙ ap (λ (p : Standpoint). p.content) so_far.alike ∙ sym other.spends.fetches.same_content)
          (one.spends.fetches.same_size ∙ ap (λ (p : Standpoint). p.size) so_far.alike ∙ sym other.spends.fetches.same_size)
          (ap (λ (r : Rooms). r.window) one.same.rooms ∙ ap (λ (p : Standpoint). p.room) so_far.alike ∙ sym (ap (λ (r : Rooms). r.window) other.same.rooms))
          (one.same.limit ∙ ap (λ (p : Standpoint). p.limit) so_far.alike ∙ sym other.same.limit)
          (one.places.current ∙ ap (entry_begun (summary_of x).stream) (ap (λ (p : Standpoint). p.entry) so_far.alike) ∙ ap (λ o. entry_begun o v.current) (sym stream_same) ∙ sym other.places.current)
          (answer_reach u x m here
          ∙ ap (reach_by (summary_of x).stream) (given_alike_in u v so_far.alike)
          ∙ ap (λ o. reach_by o (records_given v.standing)) (sym stream_same) ∙ sym (answer_reach v y n there))
          spent_same.1
          spent_same.0;
      going = one.stands.stop;
      going_too = other.stands.stop;
    }

module _ (F : List ℕ) where
  pub requested_alike : (xs : List Item) (u v m n : ListerState) → StandAlike F u v → AreRequested u xs m → AreRequested v xs n → StandAlike F m n
  requested_alike [] u v m n so_far one other = aside_alike F u v so_far m n one other
  requested_alike (x ∷ xs) u v m n so_far one other =
      let before = aside_alike F u v so_far one.0 other.0 one.1.0 other.1.0 in
      let first : IsRequested one.0 x one.1.1.0 = one.1.1.1.0 in
      let second : IsRequested other.0 x other.1.1.0 = other.1.1.1.0 in
      let behind = item_alike F one.0 other.0 before one.1.1.0 other.1.1.0 first.given second.given (sym first.is ∙ second.is) first.answers.leaves.list second.answers.leaves.list
      (first.answers.leaves.follows before.going) (second.answers.leaves.follows before.going_too) in
      requested_alike xs one.1.1.0 other.1.1.0 m n behind one.1.1.1.1 other.1.1.1.1

-- requests that give the same items of a known file, of a lister that has not stopped, have fetched the same, and leave as much
-- of the current stream unread
pub same_fetched : (F : List ℕ) (xs : List Item) (old new other : ListerState) → old.source.store.content ≡ Some F → old.stop ≡ None → AreRequested old xs new → AreRequested old xs other
    → (new.counts.fetched ≡ other.counts.fetched) × (new.unread ≡ other.unread)
same_fetched F xs old new other known going one two =
    let both = requested_alike F xs old old new other (record { known = known; alike = refl; going = going; going_too = going }) one two in
    (ap (λ (p : Standpoint). p.fetched) both.alike, ap (λ (p : Standpoint). p.unread) both.alike)

-- and so have runs that come to the end
pub same_run : (F : List ℕ) (xs : List Item) (old new other : ListerState) → old.source.store.content ≡ Some F → old.stop ≡ None → RunRequests old xs (Ok tt) new → RunRequests old xs (Ok tt) other
    → new.counts.fetched ≡ other.counts.fetched
same_run F xs old new other known going one two =
    let both = requested_alike F xs old old one.behind two.behind (record { known = known; alike = refl; going = going; going_too = going }) one.requested two.requested in
    through_alike F (standpoint_in one.behind) (standpoint_in two.behind) both.alike new.counts.fetched other.counts.fetched one.ended.leaves.list.spends.costs two.ended.leaves.list.spends.costs
