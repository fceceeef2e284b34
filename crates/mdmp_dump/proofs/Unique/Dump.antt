-- A file lays out one dump of each choice.
use Rattle.std.proofs.Common.{◌≡◌, ◌+◌, ℕ, List, [], ◌∷◌, None, refl, ap, eq-eqb, sym, ◌∙◌}
use Rattle.std.specs.Prelude.{Bool, true, false, not, ◌==◌, ◌&&◌, is_none, IsFalse}
use Rattle.mdmp_source.specs.declared.location.Location.{Location}
use Rattle.mdmp_wire.specs.declared.entry.Entry.{Entry}
use Rattle.mdmp_wire.specs.MemoryInfo.{memory_info_at}
use Rattle.mdmp_lister.specs.declared.choice.Choice.{Choice}
use Rattle.mdmp_lister.specs.Format.Kind.{kind_of}
use Rattle.mdmp_lister.specs.Format.Listing.{Numbered, chosen}
use Rattle.mdmp_dump.specs.declared.dump.Stream.{Stream}
use Rattle.mdmp_dump.specs.declared.dump.Stream.TheVariants as streams
use Rattle.mdmp_dump.specs.declared.dump.Dump.{Dump}
use Rattle.mdmp_dump.specs.Exception.{IsException}
use Rattle.mdmp_dump.specs.Memory.{IsMemory}
use Rattle.mdmp_dump.specs.Memory64.{IsMemory64}
use Rattle.mdmp_dump.specs.Module.{IsModule}
use Rattle.mdmp_dump.specs.System.{IsSystem}
use Rattle.mdmp_dump.specs.Thread.{IsThread}
use Rattle.mdmp_dump.specs.ThreadName.{IsThreadName}
use Rattle.mdmp_dump.specs.Unloaded.{IsUnloaded}
use Rattle.mdmp_dump.specs.Value.{type_of}
use Rattle.mdmp_dump.specs.LaysOut.{StandsAt, NamesStream, AreStreams, LaysOut}
use Rattle.mdmp_dump.proofs.Unique.Exception.{exception_unique}
use Rattle.mdmp_dump.proofs.Unique.Memory.{memory_unique}
use Rattle.mdmp_dump.proofs.Unique.Memory64.{memory64_unique}
use Rattle.mdmp_dump.proofs.Unique.Module.{module_unique}
use Rattle.mdmp_dump.proofs.Unique.Records.{records_unique, record_unique}
use Rattle.mdmp_dump.proofs.Unique.System.{system_unique}
use Rattle.mdmp_dump.proofs.Unique.Thread.{thread_unique}
use Rattle.mdmp_dump.proofs.Unique.ThreadName.{thread_name_unique}
use Rattle.mdmp_dump.proofs.Unique.Unloaded.{unloaded_unique}

-- a stream of this type is raw
abbrev is_raw_type : ℕ → Bool
is_raw_type t = not (t == 0) && is_none (kind_of t)

raw_type : (t : ℕ) → IsFalse (t == 0) → kind_of t ≡ None → is_raw_type t ≡ true
raw_type t used opaque = rw (used, opaque) refl

-- a number for each kind of stream, raw ones among them
abbrev code : Bool → ℕ → ℕ
code true t = 0
code false t = t + 1

code_same : {a b : Bool} {m n : ℕ} → a ≡ b → m ≡ n → code a m ≡ code b n
code_same raw same = λ i. code (raw i) (same i)

unequal : (m n : ℕ) → m ≡ n → (m == n) ≡ false → ⊥
unequal m n same differ = let both : true ≡ false = sym (eq-eqb m n same) ∙ differ in cc

module _ {Z : Type 0} where
  abbrev is_raw : Stream Z → Bool
  is_raw (streams.Raw t bytes) = true
  is_raw s = false

  raw_told : (F : List ℕ) (l : Location) (s : Stream Z) → StandsAt F l s → is_raw_type (type_of s) ≡ is_raw s
  raw_told F l (streams.Raw t bytes) p = raw_type t p.used p.opaque
  raw_told F l s p = refl

  stands_unique : (F : List ℕ) (l : Location) (s t : Stream Z) → StandsAt F l s → StandsAt F l t → type_of s ≡ type_of t → is_raw s ≡ is_raw t → s ≡ t
  stands_unique F l streams.Unused streams.Unused p q same raw = refl
  stands_unique F l (streams.Threads xs) (streams.Threads ys) p q same raw = ap streams.Threads (records_unique (λ k o. IsThread F o) (thread_unique F) xs ys p q)
  stands_unique F l (streams.Modules xs) (streams.Modules ys) p q same raw = ap streams.Modules (records_unique (λ k o. IsModule F o) (module_unique F) xs ys p q)
  stands_unique F l (streams.Memory xs) (streams.Memory ys) p q same raw = ap streams.Memory (records_unique (λ k o. IsMemory F o) (memory_unique F) xs ys p q)
  stands_unique F l (streams.Exception x) (streams.Exception y) p q same raw = ap streams.Exception (record_unique (λ k o. IsException F o) (exception_unique F) x y p q)
  stands_unique F l (streams.System x) (streams.System y) p q same raw = ap streams.System (record_unique (λ k o. IsSystem F o) (system_unique F) x y p q)
  stands_unique F l (streams.Memory64 xs) (streams.Memory64 ys) p q same raw = ap streams.Memory64 (records_unique (λ k o. IsMemory64 F l.rva k o) (memory64_unique F l.rva) xs ys p q)
  stands_unique F l (streams.Unloaded xs) (streams.Unloaded ys) p q same raw = ap streams.Unloaded (records_unique (λ k o. IsUnloaded F o) (unloaded_unique F) xs ys p q)
  stands_unique F l (streams.MemoryInfo xs) (streams.MemoryInfo ys) p q same raw = ap streams.MemoryInfo (records_unique (λ k o x. memory_info_at F o ≡ x) (λ k o x y a b. sym a ∙ b) xs ys p q)
  stands_unique F l (streams.ThreadNames xs) (streams.ThreadNames ys) p q same raw = ap streams.ThreadNames (records_unique (λ k o. IsThreadName F o) (thread_name_unique F) xs ys p q)
  stands_unique F l (streams.Raw t xs) (streams.Raw u ys) p q same raw = let bytes = sym p.bytes_are ∙ q.bytes_are in λ i. streams.Raw (same i) (bytes i)
  stands_unique F l s t p q same raw = absurd (unequal _ _ (code_same raw same) refl)

  stream_unique : (F : List ℕ) (e : Entry) (s t : Stream Z) → NamesStream F e s → NamesStream F e t → s ≡ t
  stream_unique F e s t p q =
      let same = sym p.type_is ∙ q.type_is in
      let raw = sym (raw_told F e.location s p.stands) ∙ ap is_raw_type same ∙ raw_told F e.location t q.stands in
      stands_unique F e.location s t p.stands q.stands same raw

  streams_unique : (F : List ℕ) (es : List Numbered) (ss ts : List (Stream Z)) → AreStreams F es ss → AreStreams F es ts → ss ≡ ts
  streams_unique F [] [] [] p q = refl
  streams_unique F [] [] (t ∷ ts) p q = absurd q
  streams_unique F [] (s ∷ ss) ts p q = absurd p
  streams_unique F (e ∷ es) [] ts p q = absurd p
  streams_unique F (e ∷ es) (s ∷ ss) [] p q = absurd q
  streams_unique F (e ∷ es) (s ∷ ss) (t ∷ ts) p q =
      let head = stream_unique F e.entry s t p.0 q.0 in
      let tail = streams_unique F es ss ts p.1 q.1 in
      λ i. head i ∷ tail i

  -- a file lays out one dump of each choice
  pub lays_out_once : (F : List ℕ) (c : Choice) (d e : Dump Z) → LaysOut F c d → LaysOut F c e → d ≡ e
  lays_out_once F c d e p q =
      let version_high = sym p.version_high ∙ q.version_high in
      let checksum = sym p.checksum ∙ q.checksum in
      let time = sym p.time ∙ q.time in
      let flags = sym p.flags ∙ q.flags in
      let streams = streams_unique F (chosen F c) d.streams e.streams p.streams q.streams in
      λ i. record { version_high = version_high i; checksum = checksum i; time = time i; flags = flags i; streams = streams i }
