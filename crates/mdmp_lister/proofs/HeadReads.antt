-- What is fetched for the head of a stream.
use Rattle.std.proofs.Common.{◌≡◌, ◌≤◌, ℕ, List, None, Result, Ok, Err, ap, arith, refl}
use Rattle.std.specs.Prelude.{IfErr, min, if◌then◌else◌}
use Rattle.std.proofs.lemmas.Bool.{le-ltb, lt-ltb}
use Rattle.mdmp_source.specs.Count.{raised}
use Rattle.mdmp_source.specs.Window.{WindowState}
use Rattle.mdmp_source.specs.declared.location.Location.{Location}
use Rattle.mdmp_lister.specs.declared.fault.Fault.{Fault}
use Rattle.mdmp_lister.specs.declared.fault.FaultKind.{FaultKind}
use Rattle.mdmp_lister.specs.declared.fault.FaultKind.TheVariants as kinds
use Rattle.mdmp_lister.specs.declared.fault.FetchFault.{FetchFault}
use Rattle.mdmp_lister.specs.declared.fault.FetchFault.TheVariants as fetch
use Rattle.mdmp_lister.specs.declared.form.Form.{Form}
use Rattle.mdmp_lister.specs.declared.head.Head.{Head}
use Rattle.mdmp_lister.specs.declared.kind.StreamKind.{StreamKind}
use Rattle.mdmp_lister.specs.Fault.{IsCaused, IsCausedAt, fault_of_fetch}
use Rattle.mdmp_lister.specs.Fetching.{BeginsStream, Reads, ReadsHead}
use Rattle.mdmp_lister.specs.Format.Kind.{form_of, greatest_record, record_size}
use Rattle.mdmp_lister.specs.Format.Numbers.{maybe_name}
use Rattle.mdmp_lister.specs.Format.Shape.{head_cost, head_size}
use Rattle.mdmp_lister.specs.Holding.{ComesTo, Slides, needed, started, unfetched}
use Rattle.mdmp_lister.specs.Meter.{Books, IsTried, IsUnmade, MeterState, TriesFetch, TriesRead, counts_of}
use Rattle.mdmp_lister.specs.StreamHead.{IsShort, head_spent}
use Rattle.mdmp_lister.specs.Walk.Reaching.{ReachesAtFault}
use Rattle.mdmp_lister.proofs.Budgets.{over_read}
use Rattle.mdmp_lister.proofs.Fetches.{IsCaused_none}
use Rattle.mdmp_lister.proofs.Metering.{Books-within, Books_none}
use Rattle.mdmp_lister.proofs.Naming.{source_reached}
use Rattle.mdmp_lister.proofs.RecordReads.{caused_read, unobtained_read}
use Rattle.mdmp_lister.proofs.Sliding.{fills_begun}

-- a stream that is too short, of which nothing was fetched
pub begins_short : (at : Location) (kind : StreamKind) (fault : Fault) (m : MeterState) (w : WindowState) → IsShort at kind fault → BeginsStream at (Err fault) m m w w
begins_short at kind fault m w short = rw short.is (record {
  spent = 0;
  books = Books_none 1 0 m;
  bytes = omega arith;
  fills_left = omega arith;
  room = refl;
  comes = tt;
  caused = record { caused = IsCaused_none m.source; placed = tt };
  at_fault = (omega arith, omega arith);
  over = tt;
})

-- ---- a fault that is neither one of the store nor one of a name

module _ (old new : MeterState) (same : new.names ≡ old.names) (caused : IsCaused None old.source new.source) where
  plain_caused : (kind : FaultKind) (offset size : ℕ) → maybe_name kind ≡ 0 → IsCausedAt {T = Head} (Err (record { kind = kind; offset = offset; size = size })) old.source new.source
  plain_caused (kinds.Source f) offset size none = absurd (omega (arith, none))
  plain_caused kinds.Budget offset size none = absurd (omega (arith, none))
  plain_caused _ offset size none = record { caused = caused; placed = tt }

  plain_reached : (kind : FaultKind) → maybe_name kind ≡ 0 → ReachesAtFault kind old new
  plain_reached kinds.NameLengthOutside none = absurd (omega (arith, none))
  plain_reached kinds.NameOdd none = absurd (omega (arith, none))
  plain_reached kinds.NameUnitsOutside none = absurd (omega (arith, none))
  plain_reached (kinds.Source f) none = absurd (omega (arith, none))
  plain_reached kinds.Budget none = absurd (omega (arith, none))
  plain_reached _ none = (omega (arith, same), omega (arith, same))

  plain_over : (most : ℕ) (kind : FaultKind) (offset size : ℕ) → maybe_name kind ≡ 0 → IsUnmade most kind offset size (counts_of new) new.source.size
  plain_over most kinds.Budget offset size none = absurd (omega (arith, none))
  plain_over most _ offset size none = tt

-- ---- the fetch of a head

-- whatever the head says, where its bytes were obtained or none were needed
pub tried_plain : (offset size : ℕ) (result : Result Head Fault) (old new : MeterState) → new.fetched ≡ raised old.fetched size → IfErr result (λ fault. maybe_name fault.kind ≡ 0)
    → TriesRead offset size result old new
tried_plain offset size (Ok head) old new made plain = made
tried_plain offset size (Err fault) old new made plain = tried_kind fault.kind fault.offset fault.size plain where
  tried_kind : (kind : FaultKind) (at len : ℕ) → maybe_name kind ≡ 0 → IsTried offset size kind at len old.fetched new.fetched
  tried_kind (kinds.Source f) at len none = absurd (omega (arith, none))
  tried_kind kinds.Budget at len none = absurd (omega (arith, none))
  tried_kind _ at len none = made

-- or they were not
pub tried_fetch : (offset size : ℕ) (fault : FetchFault) (old new : MeterState) → TriesFetch {T = Unit {0}} offset size (Err fault) old new
    → TriesRead {T = Head} offset size (Err (fault_of_fetch fault)) old new
tried_fetch offset size (fetch.Source f) old new tried = tt
tried_fetch offset size (fetch.Budget at len) old new tried = tried

-- of a stream that is too short none are
pub tried_short : (at : Location) (kind : StreamKind) (fault : Fault) (m : MeterState) → IsShort at kind fault → TriesRead {T = Head} at.rva (head_spent at.size kind) (Err fault) m m
tried_short at kind fault m short =
    let none : head_spent at.size kind ≡ 0 = ap (λ few. if few then 0 else head_cost (form_of kind)) (lt-ltb at.size (head_size (form_of kind) (record_size kind)) short.less) in
    let kept : m.fetched ≡ raised m.fetched (head_spent at.size kind) = rw none (omega arith) in
    rw short.is kept

-- ---- a window that was started over a stream, and holds its head

module _ (at : Location) (form : Form) (old new : MeterState) (was mid now : WindowState) (begun : mid ≡ started at was)
    (comes : ComesTo at.rva old.source.store.content mid now) where
  abbrev pub spent : ℕ
  spent = needed at.rva (head_cost form) mid

  room_kept : now.room ≡ was.room
  room_kept = (rw begun at comes).room

  whole : unfetched mid ≡ at.size
  whole = rw begun (omega arith)

  -- its bytes were not obtained
  pub begins_failed : (Is : List ℕ → Unit {0} → Type 0) (fault : FetchFault) → Reads mid.room (Books (min 1 spent) spent) Is (Err fault) old new → Slides {T = Unit {0}} {E = FetchFault} at.rva (head_cost form) mid (Err fault) now
      → BeginsStream at (Err (fault_of_fetch fault)) old new was now
  begins_failed Is fault read slides =
      let books = read.books in
      record {
        spent = spent;
        books = Books-within (min 1 spent) 1 spent spent old new (omega arith) (omega arith) books;
        bytes = omega (arith, slides.bytes, whole);
        fills_left = omega arith;
        room = room_kept;
        comes = tt;
        caused = caused_read (Unit {0}) fault old.source new.source read.caused;
        at_fault = source_reached (fault_of_fetch fault).kind old new (unobtained_read fault) (omega (arith, books.same_names)) (omega (arith, books.same_names));
        over = over_read mid.room was.room fault new (rw begun (omega arith)) read.refused;
      }

  -- or they were, whatever the head says then
  pub begins_read : (Is : List ℕ → Unit {0} → Type 0) (result : Result Head Fault) → greatest_record ≤ was.room → Reads mid.room (Books (min 1 spent) spent) Is (Ok tt) old new
      → Slides {T = Unit {0}} {E = FetchFault} at.rva (head_cost form) mid (Ok tt) now → IfErr result (λ fault. maybe_name fault.kind ≡ 0) → BeginsStream at result old new was now
  begins_read Is (Ok head) wide read slides plain = record {
    spent = spent;
    books = Books-within (min 1 spent) 1 spent spent old new (omega arith) (omega arith) read.books;
    bytes = omega (arith, slides.bytes, whole);
    fills_left = fills_begun {F = Fault} at form was mid now (Ok head) begun wide slides;
    room = room_kept;
    comes = rw begun at comes;
    caused = record { caused = read.caused; placed = tt };
    at_fault = tt;
    over = tt;
  }
  begins_read Is (Err fault) wide read slides plain = record {
    spent = spent;
    books = Books-within (min 1 spent) 1 spent spent old new (omega arith) (omega arith) read.books;
    bytes = omega (arith, slides.bytes, whole);
    fills_left = omega arith;
    room = room_kept;
    comes = tt;
    caused = plain_caused old new read.books.same_names read.caused fault.kind fault.offset fault.size plain;
    at_fault = plain_reached old new read.books.same_names read.caused fault.kind plain;
    over = plain_over old new read.books.same_names read.caused was.room fault.kind fault.offset fault.size plain;
  }

-- ---- the head alone

-- the bytes of a head are fetched where the stream has room for it
pub head_room : (size : ℕ) (kind : StreamKind) → head_size (form_of kind) (record_size kind) ≤ size → head_spent size kind ≡ head_cost (form_of kind)
head_room size kind room = ap (λ short. if short then 0 else head_cost (form_of kind)) (le-ltb size (head_size (form_of kind) (record_size kind)) room)

pub reads_short : (at : Location) (kind : StreamKind) (fault : Fault) (m : MeterState) → IsShort at kind fault → ReadsHead at.size kind (Err fault) m m
reads_short at kind fault m short = rw short.is (record {
  books = Books_none 1 (head_spent at.size kind) m;
  caused = record { caused = IsCaused_none m.source; placed = tt };
  at_fault = (omega arith, omega arith);
  over = tt;
})

-- whatever the head says, where its bytes were obtained or none were needed
pub reads_head : (size : ℕ) (kind : StreamKind) (result : Result Head Fault) (old new : MeterState) → Books 1 (head_spent size kind) old new → IsCaused None old.source new.source
    → IfErr result (λ fault. maybe_name fault.kind ≡ 0) → ReadsHead size kind result old new
reads_head size kind (Ok head) old new books caused plain = record { books = books; caused = record { caused = caused; placed = tt }; at_fault = tt; over = tt }
reads_head size kind (Err fault) old new books caused plain = record {
  books = books;
  caused = plain_caused old new books.same_names caused fault.kind fault.offset fault.size plain;
  at_fault = plain_reached old new books.same_names caused fault.kind plain;
  over = plain_over old new books.same_names caused 16 fault.kind fault.offset fault.size plain;
}

pub reads_unobtained : (size : ℕ) (kind : StreamKind) (Is : List ℕ → Unit {0} → Type 0) (fault : FetchFault) (old new : MeterState) → head_size (form_of kind) (record_size kind) ≤ size → head_cost (form_of kind) ≤ 16
    → Reads (head_cost (form_of kind)) (Books 1 (head_cost (form_of kind))) Is (Err fault) old new → ReadsHead size kind (Err (fault_of_fetch fault)) old new
reads_unobtained size kind Is fault old new room few read =
    let books = read.books in
    record {
      books = rw (head_room size kind room) books;
      caused = caused_read (Unit {0}) fault old.source new.source read.caused;
      at_fault = source_reached (fault_of_fetch fault).kind old new (unobtained_read fault) (omega (arith, books.same_names)) (omega (arith, books.same_names));
      over = over_read (head_cost (form_of kind)) 16 fault new few read.refused;
    }

pub reads_obtained : (size : ℕ) (kind : StreamKind) (Is : List ℕ → Unit {0} → Type 0) (result : Result Head Fault) (old new : MeterState) → head_size (form_of kind) (record_size kind) ≤ size
    → Reads (head_cost (form_of kind)) (Books 1 (head_cost (form_of kind))) Is (Ok tt) old new → IfErr result (λ fault. maybe_name fault.kind ≡ 0) → ReadsHead size kind result old new
reads_obtained size kind Is result old new room read plain = reads_head size kind result old new (rw (head_room size kind room) read.books) read.caused plain
