-- What listers fetch of a known file goes by the items that they give, from its opening on.
use Rattle.std.proofs.Common.{◌≡◌, ◌<◌, ◌∙◌, ℕ, suc, List, [], ◌∷◌, length, Option, Some, None, Result, Ok, Err, ap, arith, get_or, refl, subst, sym}
use Rattle.mdmp_source.specs.Count.{raised}
use Rattle.mdmp_source.specs.Source.{SourceState}
use Rattle.mdmp_wire.specs.declared.entry.Entry.{Entry}
use Rattle.mdmp_lister.specs.declared.choice.Choice.{Choice}
use Rattle.mdmp_lister.specs.declared.fault.ListFault.{ListFault}
use Rattle.mdmp_lister.specs.declared.item.Item.{Item}
use Rattle.mdmp_lister.specs.declared.item.StreamItem.{StreamItem}
use Rattle.mdmp_lister.specs.declared.limits.Limits.{Limits}
use Rattle.mdmp_lister.specs.declared.step.Step.{Step}
use Rattle.mdmp_lister.specs.Costs.{IsUnreadBy, item_cost, stream_begun}
use Rattle.mdmp_lister.specs.Following.{Cursor, Follows, GivesChosenEntry, GoesOn, records_given}
use Rattle.mdmp_lister.specs.Following as following
use Rattle.mdmp_lister.specs.Format.Directory.{IsDirectory}
use Rattle.mdmp_lister.specs.Format.Item.{plain}
use Rattle.mdmp_lister.specs.Format.Kind.{kind_of}
use Rattle.mdmp_lister.specs.Format.Summary.{entry_begun, summary_of}
use Rattle.mdmp_lister.specs.Lister.{AnswersNext, IsNewLister, ListerState, NextLeaves, Rooms, cursor_in, standpoint_in}
use Rattle.mdmp_lister.specs.declared.kind.StreamKind.{StreamKind}
use Rattle.mdmp_lister.specs.NextFetch.{IsItemPaid, Standpoint, head_left}
use Rattle.mdmp_lister.specs.Requested.{AreRequested, IsRequested, OnlyReadsAside}
use Rattle.mdmp_lister.specs.RequestedLaws.{StandAlike, alike_by, answer_reach, item_stream, reach_by, requested_alike, stream_plain}
use Rattle.mdmp_lister.specs.Step.{TellsAnswer, stream_told}
use Rattle.mdmp_lister.specs.StreamHead.{opening_bytes}

-- ---- the directory

same_list : (xs ys : List Entry) → length xs ≡ length ys → ((i : ℕ) (d : Entry) → i < length xs → get_or xs i d ≡ get_or ys i d) → xs ≡ ys
same_list [] [] size each = refl
same_list [] (y ∷ ys) size each = absurd (omega (arith, size))
same_list (x ∷ xs) [] size each = absurd (omega (arith, size))
same_list (x ∷ xs) (y ∷ ys) size each =
    let first : x ≡ y = each 0 x (omega arith) in
    let rest : xs ≡ ys = same_list xs ys (omega (arith, size)) (λ i d within. each (suc i) d (omega (arith, within))) in
    ap (λ z. z ∷ xs) first ∙ ap (λ zs. y ∷ zs) rest

directory_same : (F : List ℕ) (xs ys : List Entry) → IsDirectory F xs → IsDirectory F ys → xs ≡ ys
directory_same F xs ys one other =
    let size : length xs ≡ length ys = one.count ∙ sym other.count in
    same_list xs ys size (λ i d within. one.each i d within ∙ sym (other.each i d (omega (arith, within, size))))

-- ---- before the first item

-- nothing was given of a file by either lister
record BothOpened (F : List ℕ) (u v : ListerState) : Type 0 where
  known : u.source.store.content ≡ Some F
  content : u.source.store.content ≡ v.source.store.content
  size : u.source.size ≡ v.source.size
  room : u.rooms.window ≡ v.rooms.window
  limit : u.limit ≡ v.limit
  fetched : u.counts.fetched ≡ v.counts.fetched
  through : u.standing ≡ following.through
  through_too : v.standing ≡ following.through
  going : u.stop ≡ None
  going_too : v.stop ≡ None

module _ (F : List ℕ) (u v : ListerState) (both : BothOpened F u v) (m n : ListerState) where
  aside_opened : OnlyReadsAside u m → OnlyReadsAside v n → BothOpened F m n
  aside_opened one other = record {
    known = one.fetches.same_content ∙ both.known;
    content = one.fetches.same_content ∙ both.content ∙ sym other.fetches.same_content;
    size = one.fetches.same_size ∙ both.size ∙ sym other.fetches.same_size;
    room = ap (λ (l : ListerState). l.rooms.window) one.same ∙ both.room ∙ sym (ap (λ (l : ListerState). l.rooms.window) other.same);
    limit = ap (λ (l : ListerState). l.limit) one.same ∙ both.limit ∙ sym (ap (λ (l : ListerState). l.limit) other.same);
    fetched = one.aside.same_fetched ∙ both.fetched ∙ sym other.aside.same_fetched;
    through = ap (λ (l : ListerState). l.standing) one.same ∙ both.through;
    through_too = ap (λ (l : ListerState). l.standing) other.same ∙ both.through_too;
    going = ap (λ (l : ListerState). l.stop) one.same ∙ both.going;
    going_too = ap (λ (l : ListerState). l.stop) other.same ∙ both.going_too;
  }

-- the first item begins an entry
module _ (choice : Choice) (entries : List Entry) (z limit : ℕ) where
  chosen_stream : (c : Cursor) (s : Step) (d : Cursor) → GivesChosenEntry choice entries z limit c s d → (x : StreamItem) × (stream_told s ≡ Some x)
  chosen_stream c s d gives = (record { entry = gives.number; stream_type = gives.entry.stream_type; location = gives.entry.location }, ap stream_told gives.step_is)

  through_stream : (c : Cursor) (s : Step) (d : Cursor) → c.standing ≡ following.through → Follows choice entries z limit c (Ok (Some s)) d → (x : StreamItem) × (stream_told s ≡ Some x)
  through_stream c s d through (following.goes_on goes) = chosen_stream c s d (subst (λ at. GoesOn choice entries z limit c at (Ok (Some s)) d) through goes)
  through_stream c s d through (following.begins begun at is goes) = absurd (cc)
  through_stream c s d through (following.refuses begun fault is meets) = absurd (cc)

answer_stream : (old : ListerState) (x : Item) (new : ListerState) → old.standing ≡ following.through → AnswersNext old (Ok (Some x)) new → (a : StreamItem) × ((summary_of x).stream ≡ Some a)
answer_stream old x new through answers = by answers.read answers.told answers.follows where
  by : (read : Result (Option Step) ListFault) → TellsAnswer old.source.size read (Ok (Some (plain x))) → Follows old.choice old.entries old.source.size old.limit (cursor_in old) read (cursor_in new)
      → (a : StreamItem) × ((summary_of x).stream ≡ Some a)
  by (Ok None) told follows = absurd (cc)
  by (Err f) told follows = absurd (cc)
  by (Ok (Some s)) told follows =
      let found = through_stream old.choice old.entries old.source.size old.limit (cursor_in old) s (cursor_in new) through follows in
      (found.0, item_stream old.source.size s x told ∙ found.1)

none_through : (s : Standpoint) (known : Option StreamKind) → s.standing ≡ following.through → head_left s known ≡ 0
none_through s (Some kind) through = rw through refl
none_through s None through = refl

-- for which nothing is fetched
paid_first : (w o : ListerState) (s : Option StreamItem) (a : StreamItem) (named : ℕ) → w.standing ≡ following.through → s ≡ Some a → IsItemPaid (standpoint_in w) s named o.counts.fetched o.unread
    → o.counts.fetched ≡ raised w.counts.fetched 0
paid_first w o s a named through is paid =
    let at = subst (λ t. IsItemPaid (standpoint_in w) t named o.counts.fetched o.unread) is paid in
    at ∙ ap (raised w.counts.fetched) (none_through (standpoint_in w) (kind_of w.current.stream_type) through)

unread_first : (z : ℕ) (s : Option StreamItem) (a : StreamItem) (old new : ℕ) → s ≡ Some a → IsUnreadBy z s old new → new ≡ stream_begun z (Some a)
unread_first z s a old new is unread = subst (λ t. IsUnreadBy z t old new) is unread

module _ (F : List ℕ) (u v : ListerState) (both : BothOpened F u v) (m n : ListerState) (x y : Item) (same : plain x ≡ plain y)
    (one : NextLeaves u (Ok (Some x)) m) (other : NextLeaves v (Ok (Some y)) n) (here : AnswersNext u (Ok (Some x)) m) (there : AnswersNext v (Ok (Some y)) n) where
  -- behind it they stand alike
  first_alike : (a : StreamItem) → (summary_of x).stream ≡ Some a → StandAlike F m n
  first_alike a mine =
      let yours : (summary_of y).stream ≡ Some a = sym (stream_plain y) ∙ ap (λ (i : Item). (summary_of i).stream) (sym same) ∙ stream_plain x ∙ mine in
      record {
        known = one.spends.fetches.same_content ∙ both.known;
        alike = alike_by (standpoint_in m) (standpoint_in n)
            (one.spends.fetches.same_content ∙ both.content ∙ sym other.spends.fetches.same_content)
            (one.spends.fetches.same_size ∙ both.size ∙ sym other.spends.fetches.same_size)
            (ap (λ (r : Rooms). r.window) one.same.rooms ∙ both.room ∙ sym (ap (λ (r : Rooms). r.window) other.same.rooms))
            (one.same.limit ∙ both.limit ∙ sym other.same.limit)
            (one.places.current ∙ ap (λ s. entry_begun s u.current) mine ∙ sym (ap (λ s. entry_begun s v.current) yours) ∙ sym other.places.current)
            (answer_reach u x m here ∙ ap (λ s. reach_by s (records_given u.standing)) mine
            ∙ sym (ap (λ s. reach_by s (records_given v.standing)) yours) ∙ sym (answer_reach v y n there))
            (unread_first u.source.size (summary_of x).stream a u.unread m.unread mine one.spends.unread ∙ ap (λ z. stream_begun z (Some a)) both.size
            ∙ sym (unread_first v.source.size (summary_of y).stream a v.unread n.unread yours other.spends.unread))
            (paid_first u m (summary_of x).stream a (item_cost x) both.through mine one.spends.costs ∙ ap (λ k. raised k 0) both.fetched
            ∙ sym (paid_first v n (summary_of y).stream a (item_cost y) both.through_too yours other.spends.costs));
        going = one.stands.stop;
        going_too = other.stands.stop;
      }

module _ (F : List ℕ) where
  requested_opened : (xs : List Item) (u v m n : ListerState) → BothOpened F u v → AreRequested u xs m → AreRequested v xs n → m.counts.fetched ≡ n.counts.fetched
  requested_opened [] u v m n both one other = (aside_opened F u v both m n one other).fetched
  requested_opened (x ∷ xs) u v m n both one other =
      let before = aside_opened F u v both one.0 other.0 one.1.0 other.1.0 in
      let first : IsRequested one.0 x one.1.1.0 = one.1.1.1.0 in
      let second : IsRequested other.0 x other.1.1.0 = other.1.1.1.0 in
      let here = first.answers.leaves.follows before.going in
      let stream = answer_stream one.0 first.given one.1.1.0 before.through here in
      let behind = first_alike F one.0 other.0 before one.1.1.0 other.1.1.0 first.given second.given (sym first.is ∙ second.is) first.answers.leaves.list second.answers.leaves.list
      here (second.answers.leaves.follows before.going_too) stream.0 stream.1 in
      ap (λ (p : Standpoint). p.fetched) (requested_alike F xs one.1.1.0 other.1.1.0 m n behind one.1.1.1.1 other.1.1.1.1).alike

-- listers that were opened over a known file by the same limits have fetched the same, where they gave the same items by requests
pub same_listing : (F : List ℕ) (source : SourceState) (choice : Choice) (limits : Limits) (xs : List Item) (first other new last : ListerState) → source.store.content ≡ Some F
    → IsNewLister source choice limits first → IsNewLister source choice limits other → AreRequested first xs new → AreRequested other xs last → new.counts.fetched ≡ last.counts.fetched
same_listing F source choice limits xs first other new last known one two =
    requested_opened F xs first other new last (record {
      known = one.list.same_content ∙ known;
      content = one.list.same_content ∙ sym two.list.same_content;
      size = one.fetches.same_size ∙ sym two.fetches.same_size;
      room = one.list.asked.window_room ∙ sym two.list.asked.window_room;
      limit = one.list.asked.limit_is ∙ sym two.list.asked.limit_is;
      fetched = one.fetched ∙ ap (opening_bytes choice source.size) (directory_same F first.entries other.entries (one.list.read.directory F known) (two.list.read.directory F known)) ∙ sym two.fetched;
      through = one.list.given.standing;
      through_too = two.list.given.standing;
      going = one.list.given.stop;
      going_too = two.list.given.stop;
    })
