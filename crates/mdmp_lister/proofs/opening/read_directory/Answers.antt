use Rattle.std.proofs.Common.{◌≡◌, ◌≤◌, ◌+◌, ◌*◌, ◌∙◌, ℕ, Err, ap, arith, refl, rules, subst, length, length-append, sym, take}
use Rattle.std.proofs.lemmas.List.{length-take-le}
use Rattle.mdmp_source.specs.Range.{bytes_at}
use Rattle.mdmp_source.specs.Window.{WindowState}
use Rattle.mdmp_wire.specs.declared.header.Header.{Header}
use Rattle.mdmp_wire.specs.Entry.{entry_at}
use Rattle.mdmp_wire.specs.Header.{header_at}
use Rattle.mdmp_lister.specs.Format.Listing.{entry_of}
use Rattle.mdmp_lister.proofs.Directory.{each-more, filling_more, filling_refused, passes_more}
use Rattle.mdmp_lister.specs.NextFetch.{TriesDirectory}
use Rattle.mdmp_lister.proofs.opening.read_directory.Goals as goal

pub loop-number-preserved : goal.loop-number-preserved
loop-number-preserved g c =
    let i = c.loop-number.invariant in
    let held = c.in_ok-hold.ensures in
    let here : c.from-first.result + 12 * c.from-in-loop-number.result ≡ c.from-first.result + 12 * c.loop-number.number = omega (arith, c.from-in-loop-number.ensures) in
    let wide : 12 ≤ c.loop-number.window.room = omega (arith, i.window, ap (λ (v : WindowState). v.room) c.start.ensures, c.requires.window) in
    record {
      passes = passes_more i.passes here wide held.reads.books held.reads.caused held.comes held.slides
          (filling_more i.passes.filling (omega (arith, i.passes.place, here)) i.passes.end here c.loop-number-test.true c.hold.new.meter c.hold.new.window held.comes.room held.tries held.comes.place held.enough);
      window = rw held.comes.room i.window;
      capacity = rw c.push_reserved.ensures.capacity i.capacity;
      room = rw c.push_reserved.ensures.capacity i.room;
      count = rw (c.push_reserved.ensures.items, length-append) (omega (arith, i.count));
      each = λ file known same.
          let rva : c.args.header.stream_directory_rva ≡ (header_at file 0).stream_directory_rva = ap (λ (h : Header). h.stream_directory_rva) same in
          let at = c.from-first.result + 12 * c.from-in-loop-number.result in
          let place : at ≡ (header_at file 0).stream_directory_rva + 12 * length c.loop-number.entries.items = omega (arith, rva, i.count, c.from-first.ensures, here) in
          let all : length (take 12 c.bytes.result.now) ≡ 12 = rw c.bytes.ensures (length-take-le 12 c.hold.new.window.held held.enough) in
          let bytes : take 12 c.bytes.result.now ≡ bytes_at file at 12 = rw c.bytes.ensures (held.reads.of_file file (i.passes.books.fetches.same_content ∙ known)) in
          let is = sym (c.first_of.ensures file at (rw all bytes)) ∙ ap (entry_at file) place in
          rw c.push_reserved.ensures.items (each-more (entry_of file) c.loop-number.entries.items _ (i.each file known same) is);
    }

pub returns-in_err-hold-clause-tries : goal.returns-in_err-hold-clause-tries
returns-in_err-hold-clause-tries g c =
    let i = c.loop-number.invariant in
    let here : c.from-first.result + 12 * c.from-in-loop-number.result ≡ c.from-first.result + 12 * c.loop-number.number = omega (arith, c.from-in-loop-number.ensures) in
    let fault = c.in_err-hold.field-0.0 in
    let is : c.from_residual.result ≡ Err fault = search rules in
    let room : c.loop-number.window.room ≡ c.args.window.now.room = i.window ∙ ap (λ (v : WindowState). v.room) c.start.ensures in
    let refused = filling_refused i.passes.filling (omega (arith, i.passes.place, here)) i.passes.end here c.loop-number-test.true c.hold.new.meter c.hold.new.window c.args.header fault (sym c.from-first.ensures) refl
    c.in_err-hold.ensures.tries in
    rw is (subst (λ (n : ℕ). TriesDirectory n c.args.header (Err fault) c.args.meter.now c.hold.new.meter) room refused)
