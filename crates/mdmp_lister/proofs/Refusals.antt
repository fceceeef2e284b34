-- The first fault of a file's header and directory, from the bytes of its header.
use Rattle.std.proofs.Common.{◌≡◌, ◌≤◌, ◌<◌, ◌+◌, ◌*◌, [], inl, inr, refl, subst, ℕ, List, length, Bool, Option, Some, None, Ok, Err, arith, sym, ◌∙◌, ap}
use Rattle.std.specs.Prelude.{MatchResult, Result, nat_lt, true, false, if◌then◌else◌}
use Rattle.std.proofs.lemmas.Grind.{common_steps}
use Rattle.mdmp_source.specs.Count.{raised}
use Rattle.mdmp_source.specs.Range.{IsInside, bytes_at, is_inside}
use Rattle.mdmp_source.specs.Source.{SourceState, FetchesAtMost}
use Rattle.mdmp_source.specs.SourceLaws.{fetches_then}
use Rattle.mdmp_wire.specs.declared.entry.Entry.{Entry}
use Rattle.mdmp_wire.specs.declared.header.Header.{Header}
use Rattle.mdmp_wire.specs.declared.header_fault.HeaderFault.{HeaderFault}
use Rattle.mdmp_wire.specs.declared.header_fault.HeaderFault.TheVariants as header
use Rattle.mdmp_wire.specs.Header.{header_at, header_at-part}
use Rattle.mdmp_wire.specs.HeaderFault.{header_fault_of, header_fault}
use Rattle.mdmp_lister.specs.declared.choice.Choice.{Choice}
use Rattle.mdmp_lister.specs.Format.Directory.{AreFirst}
use Rattle.mdmp_lister.specs.StreamHead.{heads_ahead}
use Rattle.mdmp_lister.specs.declared.fault.OpenFault.{OpenFault}
use Rattle.mdmp_lister.specs.declared.fault.OpenFault.TheVariants.{TooShort, BadSignature, BadVersion, DirectoryOutside, TooManyRanges, Source, Memory, MemoryLimit, Budget}
use Rattle.mdmp_lister.specs.declared.fault.FetchFault.{FetchFault}
use Rattle.mdmp_lister.specs.declared.fault.FetchFault.TheVariants as fetch
use Rattle.mdmp_lister.specs.Meter.{Books, MeterState, store_fault_of}
use Rattle.mdmp_lister.specs.Fault.{IsCaused}
use Rattle.mdmp_lister.proofs.Fetches.{FetchesAtMost-within, IsCaused_later, not_unread, unread_caused}
use Rattle.mdmp_lister.proofs.Heads.{heads_few}
use Rattle.mdmp_lister.specs.Opening.{Finds, FitsHeader, IsBareRefusal, IsHeaderRefusal, IsDirectoryRefusal, IsHandedBack, IsHandedBackBare, IsOfHead, IsOpenRefusal, IsRefusalOf, IsRefused, IsUnread, IsUnreadFor, unread_of, IsFromBytes, refusal_of_fetch}
use Rattle.mdmp_lister.specs.Format.Refusal.{directory_refusal, behind_header}

-- the fault of the directory that a header places in a file of `size` bytes, or none
abbrev placed_fault : Header → ℕ → Option OpenFault
placed_fault h size = if is_inside h.stream_directory_rva (12 * h.number_of_streams) size then None else Some (DirectoryOutside h.stream_directory_rva (12 * h.number_of_streams))

-- the header of the first bytes of a file is the file's
pub header_at-fetched : (F bytes : List ℕ) → length bytes ≡ 32 → bytes ≡ bytes_at F 0 (length bytes) → header_at bytes 0 ≡ header_at F 0
header_at-fetched F bytes whole fetched = ap (λ b. header_at b 0) (fetched ∙ ap (bytes_at F 0) whole) ∙ header_at-part 32 0 F (omega arith)

-- what the fault of a header that was fetched says of its file
pub directory_refusal-fetched : (F bytes : List ℕ) (size : ℕ) (fault : Option HeaderFault) → size ≡ length F → 32 ≤ size → length bytes ≡ 32 → bytes ≡ bytes_at F 0 (length bytes)
    → header_fault bytes ≡ fault → directory_refusal F ≡ behind_header F fault
directory_refusal-fetched F bytes size fault len room whole fetched e =
    let long : nat_lt (length F) 32 ≡ false = grind (arith, common_steps) in
    ap (λ b. if b then Some (TooShort (length F)) else behind_header F (header_fault F)) long
    ∙ ap (behind_header F) (ap header_fault_of (sym (header_at-fetched F bytes whole fetched)) ∙ e)

-- the same where the header is good, by its directory
directory_refusal-placed : (F bytes : List ℕ) (h : Header) (size : ℕ) → size ≡ length F → 32 ≤ size → length bytes ≡ 32 → bytes ≡ bytes_at F 0 (length bytes)
    → header_fault bytes ≡ None → h ≡ header_at bytes 0 → directory_refusal F ≡ placed_fault h size
directory_refusal-placed F bytes h size len room whole fetched good read =
    directory_refusal-fetched F bytes size None len room whole fetched good
    ∙ (ap (λ x. placed_fault x (length F)) (sym (read ∙ header_at-fetched F bytes whole fetched)) ∙ ap (placed_fault h) (sym len))

pub directory_refusal-inside : (F bytes : List ℕ) (h : Header) (size : ℕ) → size ≡ length F → 32 ≤ size → length bytes ≡ 32 → bytes ≡ bytes_at F 0 (length bytes)
    → header_fault bytes ≡ None → h ≡ header_at bytes 0 → is_inside h.stream_directory_rva (12 * h.number_of_streams) size ≡ true → directory_refusal F ≡ None
directory_refusal-inside F bytes h size len room whole fetched good read inside =
    directory_refusal-placed F bytes h size len room whole fetched good read
    ∙ ap (λ b. if b then None else Some (DirectoryOutside h.stream_directory_rva (12 * h.number_of_streams))) inside

pub directory_refusal-outside : (F bytes : List ℕ) (h : Header) (size : ℕ) → size ≡ length F → 32 ≤ size → length bytes ≡ 32 → bytes ≡ bytes_at F 0 (length bytes)
    → header_fault bytes ≡ None → h ≡ header_at bytes 0 → is_inside h.stream_directory_rva (12 * h.number_of_streams) size ≡ false
    → directory_refusal F ≡ Some (DirectoryOutside h.stream_directory_rva (12 * h.number_of_streams))
directory_refusal-outside F bytes h size len room whole fetched good read outside =
    directory_refusal-placed F bytes h size len room whole fetched good read
    ∙ ap (λ b. if b then None else Some (DirectoryOutside h.stream_directory_rva (12 * h.number_of_streams))) outside

-- what the first bytes of a file in memory are refused with, it is
refused_head : (F : List ℕ) (fault : OpenFault) → Finds F (Err fault) → IsFromBytes {T = Header} (Err fault) → directory_refusal F ≡ Some fault
refused_head F (Source fault) finds read = absurd read
refused_head F (Budget offset size) finds read = absurd read
refused_head F _ finds read = finds

pub refused_found : (F : List ℕ) (result : Result Header OpenFault) → Finds F result → IsFromBytes result
    → MatchResult result (λ header. (directory_refusal F ≡ None) × (header ≡ header_at F 0)) (λ fault. directory_refusal F ≡ Some fault)
refused_found F (Ok header) finds read = finds
refused_found F (Err fault) finds read = refused_head F fault finds read

-- ---- sources that are handed back

-- of a file whose directory was not begun
IsHandedBackBare-head : (old new : SourceState) (fault : OpenFault) → FetchesAtMost 32 old new → new.calls ≤ raised old.calls 1
    → ((size : ℕ) → fault ≡ TooShort size → new ≡ old) → IsHandedBackBare old fault new
IsHandedBackBare-head old new fault fetches calls short = record {
  asked = 0;
  fetches = fetches;
  calls = calls;
  known = λ file known. omega arith;
  inside = omega arith;
  begun = λ some. absurd (omega (arith, some));
  early = λ of. refl;
  short = short;
}

-- no heads were fetched
pub IsHandedBack_bare : (choice : Choice) (old : SourceState) (fault : OpenFault) (new : SourceState) → IsHandedBackBare old fault new → IsHandedBack choice old fault new
IsHandedBack_bare choice old fault new bare = record {
  asked = bare.asked;
  entries = [];
  obtained = omega arith;
  fetches = FetchesAtMost-within (32 + 12 * bare.asked) (32 + 12 * bare.asked + heads_ahead choice old.size []) old new (omega arith) bare.fetches;
  bound = FetchesAtMost-within (32 + 12 * bare.asked) (32 + 28 * bare.asked) old new (omega arith) bare.fetches;
  calls = omega (arith, bare.calls);
  known = λ file known. (bare.known file known, λ i d over. absurd (omega (arith, over)));
  inside = bare.inside;
  begun = bare.begun;
  early = bare.early;
  short = bare.short;
}

-- of one whose directory was, by fetches of the header and then of more
module _ (choice : Choice) (old mid new : SourceState) (fault : OpenFault) (header : Header) (entries : List Entry) where
  pub IsHandedBack-begun : (m n : ℕ) → FetchesAtMost m old mid → FetchesAtMost n mid new → m + n ≤ 32 + 12 * header.number_of_streams + heads_ahead choice old.size entries
      → length entries ≤ header.number_of_streams → new.calls ≤ raised old.calls (1 + header.number_of_streams + length entries) → 12 * header.number_of_streams ≤ old.size
      → ((file : List ℕ) → old.store.content ≡ Some file → (directory_refusal file ≡ None) × (header ≡ header_at file 0))
      → ((file : List ℕ) → old.store.content ≡ Some file → AreFirst file entries) → (IsOfHead fault → ⊥) → IsHandedBack choice old fault new
  IsHandedBack-begun m n first more few obtained calls within read firsts late = record {
    asked = header.number_of_streams;
    entries = entries;
    obtained = obtained;
    fetches = FetchesAtMost-within (m + n) (32 + 12 * header.number_of_streams + heads_ahead choice old.size entries) old new few (fetches_then m n old mid new first more);
    bound = FetchesAtMost-within (m + n) (32 + 28 * header.number_of_streams) old new (omega (arith, few, obtained, heads_few choice old.size entries)) (fetches_then m n old mid new first more);
    calls = calls;
    known = λ file known. let same = ap (λ (h : Header). h.number_of_streams) (read file known).1 in (omega (arith, same), firsts file known);
    inside = within;
    begun = λ some file known. (read file known).0;
    early = λ of. absurd (late of);
    short = λ size same. absurd (late (subst IsOfHead (sym same) tt));
  }

-- the room of a directory that lies inside a file
pub directory_room : (rva count size : ℕ) → IsInside rva (12 * count) size → 12 * count ≤ size
directory_room rva count size (inl none) = omega (arith, none)
directory_room rva count size (inr all) = omega (arith, all)

-- ---- what a file is refused with

-- no header and no directory is refused for another fault than its own
if_other : (b : Bool) (x y : Option OpenFault) (fault : OpenFault) → (x ≡ Some fault → ⊥) → (y ≡ Some fault → ⊥) → (if b then x else y) ≡ Some fault → ⊥
if_other true x y fault first second = first
if_other false x y fault first second = second

-- a fault of the header or of the place of the directory is one
of_head : (own fault : OpenFault) → IsOfHead own → (IsOfHead fault → ⊥) → Some own ≡ Some fault → ⊥
of_head own fault of late same = late (subst IsOfHead (let is : own ≡ fault = cc in is) of)

behind_header-other : (F : List ℕ) (own : Option HeaderFault) (fault : OpenFault) → (IsOfHead fault → ⊥) → behind_header F own ≡ Some fault → ⊥
behind_header-other F (Some header.BadSignature) fault late same = of_head BadSignature fault tt late same
behind_header-other F (Some (header.BadVersion low)) fault late same = of_head (BadVersion low) fault tt late same
behind_header-other F None fault late same = if_other _ None (Some (DirectoryOutside _ _)) fault (λ none. cc) (λ some. of_head (DirectoryOutside _ _) fault tt late some) same

pub directory_refusal-other : (F : List ℕ) (fault : OpenFault) → (IsOfHead fault → ⊥) → directory_refusal F ≡ Some fault → ⊥
directory_refusal-other F fault late same =
    if_other _ (Some (TooShort (length F))) (behind_header F (header_fault F)) fault (λ some. of_head (TooShort (length F)) fault tt late some) (behind_header-other F (header_fault F) fault late) same

-- what the header of a file is refused with, its header and directory are
refusal-found : (F : List ℕ) (fault : OpenFault) → Finds F (Err fault) → IsDirectoryRefusal F fault
refusal-found F (Source fault) finds = tt
refusal-found F Memory finds = absurd (directory_refusal-other F Memory (λ of. of) finds)
refusal-found F (MemoryLimit held) finds = absurd (directory_refusal-other F (MemoryLimit held) (λ of. of) finds)
refusal-found F _ finds = finds

-- a refusal of one whose ranges are not counted is one of any
pub open_refusal : (size : ℕ) (fault : OpenFault) → IsBareRefusal size fault → IsOpenRefusal size fault
open_refusal size (TooManyRanges count) of = absurd of
open_refusal size _ of = of

-- where nothing is said of ranges, a fault of the directory is one of the file
pub refusal_of-directory : (F : List ℕ) (choice : Choice) (size : ℕ) (fault : OpenFault) → IsBareRefusal size fault → IsDirectoryRefusal F fault → IsRefusalOf F choice fault
refusal_of-directory F choice size (Source fault) bare of = tt
refusal_of-directory F choice size (Budget offset len) bare of = tt
refusal_of-directory F choice size Memory bare of = of
refusal_of-directory F choice size (MemoryLimit held) bare of = of
refusal_of-directory F choice size (TooManyRanges count) bare of = absurd bare
refusal_of-directory F choice size (TooShort told) bare of = rw of refl
refusal_of-directory F choice size BadSignature bare of = rw of refl
refusal_of-directory F choice size (BadVersion low) bare of = rw of refl
refusal_of-directory F choice size (DirectoryOutside offset len) bare of = rw of refl

-- what a header is refused with, a walk may be
header_refusal : (size : ℕ) (fault : OpenFault) → IsHeaderRefusal size fault → IsBareRefusal size fault
header_refusal size Memory of = absurd of
header_refusal size (MemoryLimit held) of = absurd of
header_refusal size _ of = of

-- a file whose header was read has one
pub header-long : (h : Header) (old new : SourceState) → FitsHeader old (Ok h) new → 32 ≤ old.size
header-long h old new reads = let never : old.size < 32 → ⊥ = λ less. let same = reads.short less in cc in omega (arith, never)

module _ (old new : MeterState) where
  -- by its header
  pub IsRefused-header : (fault : OpenFault) → FitsHeader old.source (Err fault) new.source → ((file : List ℕ) → old.source.store.content ≡ Some file → Finds file (Err fault))
      → Books 1 32 old new → IsCaused (unread_of fault) old.source new.source → IsRefused old.source fault new.source
  IsRefused-header fault reads finds books caused = record {
    handed_back = IsHandedBackBare-head old.source new.source fault books.fetches books.source_calls (λ size same. reads.untouched size (cc));
    opens = λ file known. refusal-found file fault (finds file known);
    refusal = header_refusal old.source.size fault reads.refusal;
    short = λ less. let same = reads.short less in cc;
    memory = λ _. books.fetches;
    cause = unread_caused fault old.source new.source caused;
    good = λ file good. not_unread fault (caused.good file good);
  }

  -- for too little memory, behind its header
  IsRefused-behind : (fault : OpenFault) (h : Header) → ((size : ℕ) → fault ≡ TooShort size → ⊥) → ((file : List ℕ) → directory_refusal file ≡ None → IsDirectoryRefusal file fault)
      → (32 ≤ old.source.size → IsBareRefusal old.source.size fault) → IsUnreadFor fault old.source new.source → (IsUnread fault → ⊥)
      → FitsHeader old.source (Ok h) new.source → ((file : List ℕ) → old.source.store.content ≡ Some file → Finds file (Ok h))
      → Books 1 32 old new → IsRefused old.source fault new.source
  IsRefused-behind fault h late opens refusal cause obtained reads finds books = record {
    handed_back = IsHandedBackBare-head old.source new.source fault books.fetches books.source_calls (λ size same. absurd (late size same));
    opens = λ file known. opens file (finds file known).0;
    refusal = refusal (header-long h old.source new.source reads);
    short = λ less. absurd (omega (arith, less, header-long h old.source new.source reads));
    memory = λ _. books.fetches;
    cause = cause;
    good = λ file good. obtained;
  }

  pub IsRefused-memory : (h : Header) → FitsHeader old.source (Ok h) new.source → ((file : List ℕ) → old.source.store.content ≡ Some file → Finds file (Ok h))
      → Books 1 32 old new → IsCaused None old.source new.source → IsRefused old.source Memory new.source
  IsRefused-memory h reads finds books caused =
      IsRefused-behind Memory h (λ size same. cc) (λ file opens. opens) (λ long. long) caused.once (λ unread. unread) reads finds books

  pub IsRefused-limit : (held : ℕ) (h : Header) → FitsHeader old.source (Ok h) new.source → ((file : List ℕ) → old.source.store.content ≡ Some file → Finds file (Ok h))
      → Books 1 32 old new → IsCaused None old.source new.source → IsRefused old.source (MemoryLimit held) new.source
  IsRefused-limit held h reads finds books caused =
      IsRefused-behind (MemoryLimit held) h (λ size same. cc) (λ file opens. opens) (λ long. long) caused.once (λ unread. unread) reads finds books

-- bytes that were not obtained are no fault of a header
pub not_of_head : (fault : FetchFault) → IsOfHead (refusal_of_fetch fault) → ⊥
not_of_head (fetch.Source fault) of = of
not_of_head (fetch.Budget offset size) of = of

-- nor want of memory
pub not_of_memory : (fault : FetchFault) → refusal_of_fetch fault ≡ Memory → ⊥
not_of_memory (fetch.Source fault) same = cc
not_of_memory (fetch.Budget offset size) same = cc

-- any file may be refused for them, whatever it holds, and any size of 32 or more
pub refusal_of_fetch-any : (F : List ℕ) (choice : Choice) (fault : FetchFault) → IsRefusalOf F choice (refusal_of_fetch fault)
refusal_of_fetch-any F choice (fetch.Source fault) = tt
refusal_of_fetch-any F choice (fetch.Budget offset size) = tt

pub refusal_of_fetch-long : (size : ℕ) (fault : FetchFault) → 32 ≤ size → IsOpenRefusal size (refusal_of_fetch fault)
refusal_of_fetch-long size (fetch.Source fault) long = long
refusal_of_fetch-long size (fetch.Budget offset len) long = long

-- with the fault of the store that the fetch told
pub refusal_of_fetch-caused : (fault : FetchFault) (old new : SourceState) → IsCaused (store_fault_of {T = ℕ} (Err fault)) old new → IsCaused (unread_of (refusal_of_fetch fault)) old new
refusal_of_fetch-caused (fetch.Source fault) old new caused = caused
refusal_of_fetch-caused (fetch.Budget offset size) old new caused = caused

-- in its directory
module _ (old mid new : MeterState) (h : Header) where
  directory_refused : (fault : OpenFault) → (IsOfHead fault → ⊥) → (fault ≡ Memory → ⊥) → ((file : List ℕ) → IsDirectoryRefusal file fault) → (32 ≤ old.source.size → IsBareRefusal old.source.size fault)
      → FitsHeader old.source (Ok h) mid.source → ((file : List ℕ) → old.source.store.content ≡ Some file → Finds file (Ok h)) → Books 1 32 old mid
      → IsCaused None old.source mid.source → Books h.number_of_streams (12 * h.number_of_streams) mid new → IsCaused (unread_of fault) mid.source new.source
      → IsRefused old.source fault new.source
  directory_refused fault late room opens refusal reads finds header none books caused =
      let long = header-long h old.source mid.source reads in
      let all = IsCaused_later (unread_of fault) 32 old.source mid.source new.source header.fetches none caused in
      record {
        handed_back = record {
          asked = h.number_of_streams;
          fetches = FetchesAtMost-within (32 + 12 * h.number_of_streams) (32 + 12 * h.number_of_streams) old.source new.source (omega arith)
              (fetches_then 32 (12 * h.number_of_streams) old.source mid.source new.source header.fetches books.fetches);
          calls = omega (arith, header.source_calls, books.source_calls);
          known = λ file known. let same = ap (λ (x : Header). x.number_of_streams) (finds file known).1 in omega (arith, same);
          inside = directory_room h.stream_directory_rva h.number_of_streams old.source.size reads.inside;
          begun = λ some file known. (finds file known).0;
          early = λ of. absurd (late of);
          short = λ size same. absurd (late (subst IsOfHead (sym same) tt));
        };
        opens = λ file known. opens file;
        refusal = refusal long;
        short = λ less. absurd (omega (arith, less, long));
        memory = λ same. absurd (room same);
        cause = unread_caused fault old.source new.source all;
        good = λ file good. not_unread fault (all.good file good);
      }

  -- some bytes were not obtained
  pub IsRefused-directory : (fault : FetchFault) → FitsHeader old.source (Ok h) mid.source → ((file : List ℕ) → old.source.store.content ≡ Some file → Finds file (Ok h))
      → Books 1 32 old mid → IsCaused None old.source mid.source → Books h.number_of_streams (12 * h.number_of_streams) mid new
      → IsCaused (store_fault_of {T = Unit {0}} (Err fault)) mid.source new.source → IsRefused old.source (refusal_of_fetch fault) new.source
  IsRefused-directory (fetch.Source fault) = directory_refused (Source fault) (λ of. of) (λ same. cc) (λ file. tt) (λ long. long)
  IsRefused-directory (fetch.Budget offset size) = directory_refused (Budget offset size) (λ of. of) (λ same. cc) (λ file. tt) (λ long. long)
