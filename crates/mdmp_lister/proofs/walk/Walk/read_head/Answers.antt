use Rattle.std.proofs.Common.{◌≡◌, ◌<◌, Some, None, ◌∙◌, ap, arith, refl, rules, sym}
use Rattle.mdmp_lister.specs.Fault.{IsUnobtained, source_of}
use Rattle.mdmp_lister.specs.Format.Item.{sizes_before}
use Rattle.mdmp_lister.specs.Format.Kind.{kind_of}
use Rattle.mdmp_lister.specs.Format.Shape.{location_fault}
use Rattle.mdmp_lister.proofs.Budgets.{over-within}
use Rattle.mdmp_lister.proofs.Bodies.{body-faulted}
use Rattle.mdmp_lister.proofs.EntrySteps.{answered_head, answered_outside, head_read}
use Rattle.mdmp_lister.proofs.Counted.{counted_bad, counted_none, counted_outside, counted_shaped}
use Rattle.mdmp_lister.proofs.Fetches.{not_of_source, told_in_caused, unchanged_caused}
use Rattle.mdmp_lister.proofs.Heads.{listed-inside}
use Rattle.mdmp_lister.proofs.Metering.{Books-within, Books_none}
use Rattle.mdmp_lister.proofs.NextWalks.{head_next}
use Rattle.mdmp_lister.proofs.Paying.{entry_cost-listed, fault_stage-owed}
use Rattle.mdmp_lister.proofs.Unchanged.{fault_stage-unchanged}
use Rattle.mdmp_lister.proofs.walk.Walk.read_head.Goals as goal

pub returns-in-Ok-clause-read : goal.returns-in-Ok-clause-read
unfolding sizes_before
returns-in-Ok-clause-read g c =
    let w = c.args.self.now in
    let of = c.in-Ok.ensures in
    let base = c.from.ensures in
    head_read w _ c.in-Some-of_type.kind c.requires.head c.requires.sound (search rules) (search rules) (search rules) _ of.begins.books
    c.in-Ok.head c.from.result refl of.head (omega (arith, base, c.from.type_inv)) of.begins.comes of.begins.bytes of.begins.fills_left (λ file content memory. omega (arith, base, of.base file content memory)) of.shape of.some of.tries

pub returns-in-Ok-clause-counted : goal.returns-in-Ok-clause-counted
returns-in-Ok-clause-counted g c =
    let w = c.args.self.now in
    let of = c.in-Ok.ensures in
    let kind = c.in-Some-of_type.kind in
    let whole : location_fault w.meter.source.size w.current ≡ None = search rules in
    let known : kind_of w.current.stream_type ≡ Some kind = search rules in
    let inside = listed-inside w.meter.source.size w.current kind whole known in
    record {
      books = Books-within 1 1 _ _ w.meter c.begin_stream.new.meter (omega arith)
          (rw (c.requires.head, entry_cost-listed (λ d. d) w.meter.source.size w.current kind known inside) (omega (arith, of.begins.bytes))) of.begins.books;
      of_file = λ file content. (counted_shaped file _ w.current kind c.in-Ok.head.shape (rw (rw content at c.requires.sound.sized) at whole) known (of.shape file content), refl);
      unchanged = tt;
    }

pub returns-in-Err-clause-counted : goal.returns-in-Err-clause-counted
returns-in-Err-clause-counted g c =
    let w = c.args.self.now in
    let of = c.in-Err.ensures in
    let f = c.of_entry-in-Err.result in
    let kind = c.in-Some-of_type.kind in
    let whole : location_fault w.meter.source.size w.current ≡ None = search rules in
    let known : kind_of w.current.stream_type ≡ Some kind = search rules in
    let inside = listed-inside w.meter.source.size w.current kind whole known in
    rw c.stop_at-in-Err.ensures.1 (record {
      books = Books-within 1 1 _ _ w.meter c.begin_stream.new.meter (omega arith)
          (rw (c.requires.head, of.begins.books.fetches.same_size, entry_cost-listed (λ d. d) w.meter.source.size w.current kind known inside, fault_stage-owed w.meter.source.size w.current c.begin_stream.new.window f) (omega (arith, of.begins.bytes))) of.begins.books;
      of_file = λ file content. counted_bad file _ w.current kind c.in-Err.fault f (rw (rw content at c.requires.sound.sized) at whole) known (of.shape file content) c.of_entry-in-Err.ensures;
      unchanged = fault_stage-unchanged f (unchanged_caused c.in-Err.fault f w.meter.source c.begin_stream.new.meter.source of.begins.caused c.of_entry-in-Err.ensures.kind);
    })

pub returns-in-Some-clause-counted : goal.returns-in-Some-clause-counted
returns-in-Some-clause-counted g c =
    let w = c.args.self.now in
    rw c.stop_at.ensures.1 (record {
      books = Books_none 1 _ w.meter;
      of_file = λ file content. counted_outside file _ w.current c.in-Some.fault c.of_entry.result (search rules) c.of_entry.ensures;
      unchanged = fault_stage-unchanged c.of_entry.result (rw (c.of_entry.ensures.kind, c.in-Some.ensures.kind) tt);
    })

pub returns-in_default-of_type-clause-counted : goal.returns-in_default-of_type-clause-counted
returns-in_default-of_type-clause-counted g c =
    let w = c.args.self.now in
    let whole : location_fault w.meter.source.size w.current ≡ None = search rules in
    record {
      books = Books_none 1 _ w.meter;
      of_file = λ file content. counted_none file _ w.current (rw (rw content at c.requires.sound.sized) at whole) (search rules);
      unchanged = tt;
    }

pub returns-in-Err-clause-read : goal.returns-in-Err-clause-read
returns-in-Err-clause-read g c =
    let w = c.args.self.now in
    let f = c.of_entry-in-Err.result in
    let told = c.of_entry-in-Err.ensures in
    let of = c.in-Err.ensures in
    let kind = c.in-Some-of_type.kind in
    let begun : 0 < w.next = rw c.requires.head at c.requires.sound.staged in
    let known : kind_of w.current.stream_type ≡ Some kind = search rules in
    let whole : location_fault w.meter.source.size w.current ≡ None = search rules in
    rw (c.stop_at-in-Err.ensures.1, c.stop_at-in-Err.ensures.0)
    (answered_head w _ kind c.requires.head c.requires.sound (search rules) whole known _ of.begins.books f refl
    (record {
      told = told_in_caused w.current c.in-Err.fault f w.meter.source c.begin_stream.new.meter.source of.begins.caused told.kind told.place told.of_all;
      number = omega (arith, told.entry, begun);
      named = rw told.kind of.begins.at_fault;
      over = rw (told.kind, told.place.0, told.place.1) (over-within _ _ _ _ _ _ _ (omega arith) of.begins.over);
      next = rw (told.kind, told.place.0, told.place.1) (head_next w (record w { meter = c.begin_stream.new.meter }) kind c.requires.head whole known c.in-Err.fault.kind c.in-Err.fault.offset c.in-Err.fault.size of.tries);
    })
    (omega (arith, of.begins.bytes))
    (λ file content not.
    let other : IsUnobtained c.in-Err.fault.kind → ⊥ = λ is. not (rw (sym told.kind) at is) in
    rw (told.of_file other) (body-faulted file _ _ w.current kind (rw (rw content at c.requires.sound.sized) at whole) known c.in-Err.fault (of.shape file content other)))
    (λ file good. not_of_source f.kind (ap source_of told.kind ∙ of.begins.caused.caused.good file good))
    c.in-Err.fault told of.some)

pub returns-in-Some-clause-read : goal.returns-in-Some-clause-read
returns-in-Some-clause-read g c =
    let w = c.args.self.now in
    let f = c.of_entry.result in
    rw c.stop_at.ensures.0
    (answered_outside w c.stop_at.new.self f c.requires.head c.requires.sound c.stop_at.ensures.1 c.in-Some.fault c.of_entry.ensures (search rules) c.in-Some.ensures.kind)
