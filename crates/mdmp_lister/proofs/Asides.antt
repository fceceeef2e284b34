-- What is read beside the listing leaves of a walk.
use Rattle.std.proofs.Common.{◌≡◌, ◌-◌, ◌∙◌, ℕ, List, Result, ap, sym}
use Rattle.std.specs.Option.{option_map}
use Rattle.mdmp_source.specs.declared.fault.SourceFault.{SourceFault}
use Rattle.mdmp_source.specs.declared.location.Location.{Location}
use Rattle.mdmp_map.specs.Map.{MapState}
use Rattle.mdmp_lister.proofs.Budgets.{over_at_kept}
use Rattle.mdmp_lister.specs.declared.codeview.CodeViewRead.{CodeViewRead}
use Rattle.mdmp_lister.specs.declared.walk.Walk.{Walk}
use Rattle.mdmp_lister.specs.Format.Listing.{Run, joined, listing_from}
use Rattle.mdmp_lister.specs.Lister.{ListerState}
use Rattle.mdmp_lister.specs.Meter.{BooksAside}
use Rattle.mdmp_lister.specs.Walk.Mapping.{IsMapped}
use Rattle.mdmp_lister.specs.Walk.Paying.{owed_of, unread_bytes}
use Rattle.mdmp_lister.specs.CodeView.{codeview_most}
use Rattle.mdmp_lister.specs.Walk.Requests.{CodeViewFetched}
use Rattle.mdmp_lister.specs.Walk.{IsSound, left_of, left_of_entry}

-- what a lister is to its callers
abbrev pub viewed : {T : Type 0} {x y : T} → x ≡ y → T
viewed {T} {x} {y} same = x

pub state_aside : (old new : ListerState) → new ≡ record old { source = new.source; counts = new.counts; limit = new.limit; rooms = new.rooms; left = new.left; unread = new.unread } → new.limit ≡ old.limit → new.rooms ≡ old.rooms
    → new.left ≡ old.left → new.unread ≡ old.unread → new ≡ record old { source = new.source; counts = new.counts }
state_aside old new is limit rooms left unread =
    is ∙ ap (λ n. record old { source = new.source; counts = new.counts; limit = n; rooms = new.rooms; left = new.left; unread = new.unread }) limit
    ∙ ap (λ r. record old { source = new.source; counts = new.counts; rooms = r; left = new.left; unread = new.unread }) rooms
    ∙ ap (λ run. record old { source = new.source; counts = new.counts; left = run; unread = new.unread }) left
    ∙ ap (λ n. record old { source = new.source; counts = new.counts; unread = n }) unread

module _ {S A : Type 0} where
  -- but for what was counted and the bytes of the buffer of names it stays
  pub aside_sound : {calls : ℕ} (n : ℕ) (w new : Walk S A) → IsSound w → BooksAside calls n w.meter new.meter → new.name.limit ≡ w.name.limit → IsSound (record w { meter = new.meter; name = new.name })
  aside_sound n w new old books room =
      let content = books.fetches.same_content in
      let size = books.fetches.same_size in
      record {
        sized = rw (content, size) old.sized;
        window = old.window;
        small = rw room old.small;
        few = old.few;
        whole = old.whole;
        listed = rw size old.listed;
        placed = old.placed;
        staged = rw size old.staged;
        holding = rw content old.holding;
        headed = λ file known. old.headed file (sym content ∙ known);
        ended = old.ended;
        directory = λ file known. old.directory file (sym content ∙ known);
        header_is = λ file known. old.header_is file (sym content ∙ known);
        unfailed = λ file good. old.unfailed file (record { known = sym content ∙ good.known; reliable = rw (← books.fetches.same_reliable) good.reliable });
        refused = rw room (over_at_kept _ w.stage w.meter new.meter books.spends.same_budget books.spends.same_fetched books.spends.same_asked size old.refused);
        opened = rw books.spends.same_fetched old.opened;
      }

  pub aside_mapped : {calls : ℕ} (n : ℕ) (w new : Walk S A) (map : MapState) → IsMapped w map → BooksAside calls n w.meter new.meter → new.name.limit ≡ w.name.limit → IsMapped (record w { meter = new.meter; name = new.name }) map
  aside_mapped n w new map old books room =
      let content = books.fetches.same_content in
      let size = books.fetches.same_size in
      record {
        sound = aside_sound n w new old.sound books room;
        room = record { ahead = old.room.ahead; owed = λ file known. old.room.owed file (sym content ∙ known) };
        inside = rw size old.inside;
        bounded = record {
          bytes = rw (size, room, books.spends.same_asked, books.spends.same_names) old.bounded.bytes;
          calls = rw (size, books.spends.same_calls, books.spends.same_names) old.bounded.calls;
          names = rw books.spends.same_names old.bounded.names;
        };
        opened = rw (size, books.spends.same_fetched) old.opened;
        counted = λ file known. old.counted file (sym content ∙ known);
      }

  pub codeview_mapped : (at : Location) (w new : Walk S A) (result : Result CodeViewRead SourceFault) (map : MapState) → CodeViewFetched at w result new → IsMapped w map → IsMapped new map
  codeview_mapped at w new result map fetched old = rw fetched.same (aside_mapped (codeview_most at w.name.limit) w new map old fetched.read.reads.books fetched.room)

  -- what is left, where names have at most `limit` bytes
  abbrev left_by : ℕ → Walk S A → List ℕ → Run
  left_by limit w file = joined (left_of_entry file limit (w.next - 1) w.current w.stage) (listing_from file w.choice limit w.next)

  pub codeview_left : (at : Location) (w new : Walk S A) (result : Result CodeViewRead SourceFault) → CodeViewFetched at w result new
      → option_map (left_of new) new.meter.source.store.content ≡ option_map (left_of w) w.meter.source.store.content
  codeview_left at w new result fetched =
      ap (λ (n : Walk S A). option_map (left_of n) n.meter.source.store.content) fetched.same
      ∙ ap (λ limit. option_map (left_by limit w) new.meter.source.store.content) fetched.room
      ∙ ap (option_map (left_of w)) fetched.read.reads.books.fetches.same_content

  pub codeview_unread : (at : Location) (w new : Walk S A) (result : Result CodeViewRead SourceFault) → CodeViewFetched at w result new
      → unread_bytes new ≡ unread_bytes w
  codeview_unread at w new result fetched =
      ap unread_bytes fetched.same ∙ ap (λ size. owed_of size w.current w.window w.stage) fetched.read.reads.books.fetches.same_size
