-- Texts that are not known, by how many bytes they have.
use Rattle.std.proofs.Common.{◌≡◌, ◌≤◌, ◌+◌, ℕ, Bool, true, false, List, [], ◌++◌, if◌then◌else◌, Option, Result, Ok, Err, length, take, drop, arith, refl, ap, subst, sym, ◌∙◌, length-append, length-drop, length-take}
use Rattle.std.specs.Prelude.{OnOk}
use Rattle.std.proofs.Math.Seq.{take-add}
use Rattle.std.proofs.lemmas.Bool.{eqb-true}
use Rattle.mdmp_source.specs.Output.{OutState}
use Rattle.mdmp_wire.specs.Header.{header_bytes}
use Rattle.mdmp_dump.specs.declared.view.Kind.{Kind}
use Rattle.mdmp_dump.specs.declared.view.Kind.TheVariants as kinds
use Rattle.mdmp_dump.specs.declared.view.PartSize.{PartSize}
use Rattle.mdmp_dump.specs.declared.view.PartSize.TheVariants as parts
use Rattle.mdmp_dump.specs.Placed.{part_room, size_in}
use Rattle.mdmp_dump.specs.Places.{up}
use Rattle.mdmp_dump.specs.Shape.{GivesNone, ViewShape, StreamShape, body_by, body_of, far_of, is_far, room_of}
use Rattle.mdmp_writer.specs.RecordTexts.{bytes_of_rows}
use Rattle.mdmp_writer.specs.Layout.{block_size, blocks_size, fars_size, file_size, first_block}
use Rattle.mdmp_writer.specs.Gather.{Gathered, HoldsMore, Gathers, PutsDump, PutsSome, Writes, gathered}
use Rattle.mdmp_writer.specs.Writing.{GoesOut}
use Rattle.mdmp_writer.specs.Written.{directory, header_of}
use Rattle.mdmp_writer.proofs.Back.{length-header_bytes}
use Rattle.mdmp_writer.proofs.RoundTrip.{length-directory}
use Rattle.mdmp_writer.proofs.Sending.{holding, puts_flush, puts_held, puts_nothing, puts_puts, sent_all}

pub some_none : (a : Gathered) → PutsSome a 0 a
some_none a = record { text = []; count = refl; puts = puts_nothing a }

pub some_of : (a b : Gathered) (text : List ℕ) (n : ℕ) → Gathers a text b → length text ≡ n → PutsSome a n b
some_of a b text n puts count = record { text = text; count = count; puts = puts }

pub some_then : (a b c : Gathered) (m n : ℕ) → PutsSome a m b → PutsSome b n c → PutsSome a (m + n) c
some_then a b c m n first next = record {
  text = first.text ++ next.text;
  count = omega (arith, length-append first.text next.text, first.count, next.count);
  puts = puts_puts a b c first.text next.text first.puts next.puts;
}

-- after a flush that added nothing
pub some_behind : (a b c : Gathered) (n : ℕ) → Gathers a [] b → PutsSome b n c → PutsSome a n c
some_behind a b c n sent some = record { text = some.text; count = some.count; puts = puts_puts a b c [] some.text sent some.puts }

pub some_is : (a b : Gathered) (m n : ℕ) → m ≡ n → PutsSome a m b → PutsSome a n b
some_is a b m n same some = subst (λ (k : ℕ). PutsSome a k b) same some

-- behind a text that was put another may follow
pub ok_then : {T E : Type 0} (r : Result T E) (a b c : Gathered) (m n sum : ℕ) → m + n ≡ sum → PutsSome a m b → OnOk r (PutsSome b n c) → OnOk r (PutsSome a sum c)
ok_then (Ok x) a b c m n sum same first next = some_is a c (m + n) sum same (some_then a b c m n first next)
ok_then (Err e) a b c m n sum same first next = tt

pub ok_is : {T E : Type 0} (r : Result T E) (a b : Gathered) (m n : ℕ) → m ≡ n → OnOk r (PutsSome a m b) → OnOk r (PutsSome a n b)
ok_is (Ok x) a b m n same some = some_is a b m n same some
ok_is (Err e) a b m n same some = tt

-- a known text has its length
pub ok_of : {T E : Type 0} (r : Result T E) (a b : Gathered) (text : List ℕ) (n : ℕ) → length text ≡ n → Writes r a text b → OnOk r (PutsSome a n b)
ok_of (Ok x) a b text n count puts = some_of a b text n puts count
ok_of (Err e) a b text n count puts = tt

-- ---- what the buffer holds

pub some_held : (taken : Option (List ℕ)) (n : ℕ) (old new : List ℕ) → HoldsMore n old new → PutsSome (holding taken old) n (holding taken new)
some_held taken n old new holds = record {
  text = holds.more;
  count = holds.count;
  puts = rw holds.held (puts_held taken old holds.more);
}

-- bytes that were written behind the first ones of a buffer are held behind those
pub more_held : (old new : List ℕ) (held n : ℕ) → length new ≡ length old → take held new ≡ take held old → held + n ≤ length old → HoldsMore n (take held old) (take (held + n) new)
more_held old new held n same first room = record {
  more = take n (drop held new);
  count = omega (arith, length-take n (drop held new), length-drop held new, same, room);
  held = take-add held n new ∙ ap (λ (front : List ℕ). front ++ take n (drop held new)) first;
}

-- ---- rooms

-- a part takes its bytes, padded
pub room_up : (part : PartSize) → up (size_in part) ≡ part_room part
room_up parts.NoPart = refl
room_up (parts.Size n) = refl
room_up (parts.Absent n) = refl

-- ---- what is still to come

-- of so many bytes all were put but those that are left
pub record IsToCome (before : Gathered) (whole left : ℕ) (now : Gathered) : Type 0 where
  pub met : ℕ
  pub sum : met + left ≡ whole
  pub some : PutsSome before met now

pub come_begin : (a : Gathered) (whole : ℕ) → IsToCome a whole whole a
come_begin a whole = record { met = 0; sum = omega arith; some = some_none a }

pub come_next : (a b c : Gathered) (whole old n new : ℕ) → old ≡ n + new → IsToCome a whole old b → PutsSome b n c → IsToCome a whole new c
come_next a b c whole old n new split come some = record {
  met = come.met + n;
  sum = omega (arith, come.sum, split);
  some = some_then a b c come.met n come.some some;
}

pub come_none : (a b : Gathered) (whole left : ℕ) → left ≡ 0 → IsToCome a whole left b → PutsSome a whole b
come_none a b whole left none come = some_is a b come.met whole (omega (arith, come.sum, none)) come.some

-- ---- records

-- of no records
pub no_rows : (kind : Kind) (count : ℕ) → count ≡ 0 → bytes_of_rows kind count ≡ 0
no_rows (kinds.Known t) count none = rw none (omega arith)
no_rows kinds.Unused count none = refl
no_rows (kinds.Raw t) count none = refl

-- a stream whose bytes stand behind all streams has this type
pub far_kind : (kind : Kind) → is_far kind ≡ true → kind ≡ kinds.Known 9
far_kind kinds.Unused is = cc
far_kind (kinds.Known t) is = ap kinds.Known (eqb-true t 9 is)
far_kind (kinds.Raw t) is = cc

-- ---- streams

-- of a stream of no records no names and parts are left as it is begun
room_by : (far : Bool) (parts : ℕ) → parts ≡ 0 → (if far then 0 else parts) ≡ 0
room_by true parts none = refl
room_by false parts none = none

far_room_by : (far : Bool) (parts : ℕ) → parts ≡ 0 → (if far then parts else 0) ≡ 0
far_room_by true parts none = none
far_room_by false parts none = refl

no_record : (kind : Kind) (records : ℕ) → records ≡ 0 → GivesNone kind records
no_record (kinds.Known t) records none = none
no_record kind records none = tt

pub room_stray : (s : StreamShape) → (GivesNone s.kind s.records → s.parts ≡ 0) → s.records ≡ 0 → room_of s ≡ 0
room_stray s stray none = room_by (is_far s.kind) s.parts (stray (no_record s.kind s.records none))

pub far_stray : (s : StreamShape) → (GivesNone s.kind s.records → s.parts ≡ 0) → s.records ≡ 0 → far_of s ≡ 0
far_stray s stray none = far_room_by (is_far s.kind) s.parts (stray (no_record s.kind s.records none))

pub known_far : (s : StreamShape) → s.kind ≡ kinds.Known 9 → far_of s ≡ s.parts
known_far s is = ap (λ (kind : Kind). if is_far kind then s.parts else 0) is

-- what is unused has no bytes, and a raw stream those alone
pub unused_block : (s : StreamShape) → s.kind ≡ kinds.Unused → (GivesNone s.kind s.records → s.parts ≡ 0) → block_size s ≡ 0
unused_block s is stray =
    let none : s.parts ≡ 0 = stray (rw is tt) in
    let room : room_of s ≡ 0 = room_by (is_far s.kind) s.parts none in
    let body : body_of s ≡ 0 = ap (λ (kind : Kind). body_by kind s.records s.raw) is in
    omega (arith, room, body)

pub raw_block : (s : StreamShape) (t : ℕ) → s.kind ≡ kinds.Raw t → (GivesNone s.kind s.records → s.parts ≡ 0) → block_size s ≡ up (body_of s)
raw_block s t is stray =
    let none : s.parts ≡ 0 = stray (rw is tt) in
    omega (arith, room_by (is_far s.kind) s.parts none)

-- ---- the whole

-- a header and a directory, and as much behind them as all streams take
pub dump_then : {T E : Type 0} (r : Result T E) (a b c d : Gathered) (shape : ViewShape) → Gathers a (header_bytes (header_of shape.header (length shape.streams))) b
    → Gathers b (directory shape.streams (first_block shape.streams)) c → OnOk r (PutsSome c (blocks_size shape.streams + fars_size shape.streams) d) → OnOk r (PutsDump shape a d)
dump_then (Ok x) a b c d shape head entries behind =
    let front = header_bytes (header_of shape.header (length shape.streams)) in
    let names = directory shape.streams (first_block shape.streams) in
    record {
      some = record {
        text = front ++ names ++ behind.text;
        count = omega (
          arith,
          length-append (front ++ names) behind.text,
          length-append front names,
          length-header_bytes (header_of shape.header (length shape.streams)),
          length-directory shape.streams (first_block shape.streams),
          behind.count,
        );
        puts = puts_puts a c d (front ++ names) behind.text (puts_puts a b c front names head entries) behind.puts;
      };
      begins = record { rest = behind.text; is = refl };
    }
dump_then (Err e) a b c d shape head entries behind = tt

-- and it went out, where nothing was held before and nothing is held behind it
pub dump_out : (shape : ViewShape) (size : ℕ) (before mid after : OutState) (held left : List ℕ) → size ≡ file_size shape.streams → PutsDump shape (gathered before []) (gathered mid held)
    → Gathers (gathered mid held) [] (gathered after left) → left ≡ [] → GoesOut shape size before after
dump_out shape size before mid after held left is put flushed empty = record {
  text = put.some.text;
  count = put.some.count ∙ sym is;
  begins = put.begins;
  took = sent_all (gathered before []) (gathered after left) put.some.text refl empty (puts_flush (gathered before []) (gathered mid held) (gathered after left) put.some.text put.some.puts flushed);
}
