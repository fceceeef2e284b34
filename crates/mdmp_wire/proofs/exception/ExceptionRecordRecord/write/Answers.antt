use Rattle.std.proofs.Common.{◌≡◌, refl, sym, ap, ◌∙◌, arith, ◌++◌, length, length-append}
use Rattle.std.proofs.lemmas.List.{take_all}
use Rattle.mdmp_wire.specs.Location.{location_bytes}
use Rattle.mdmp_wire.specs.NumberLaws.{number_at-past, numbers_at-past, numbers_at-front}
use Rattle.mdmp_wire.specs.Number.{number_at, le, les, zeros}
use Rattle.mdmp_wire.specs.Exception.{exception_at, exception_bytes}
use Rattle.mdmp_wire.proofs.exception.ExceptionRecordRecord.write.Goals as goal

pub returns-clause-bytes : goal.returns-clause-bytes
returns-clause-bytes c =
    sym (take_all 168 c.put_at-10.new.out (omega arith)) ∙ rw (c.put_at-10.ensures.bytes, c.put_at-9.ensures.bytes, c.put_at-8.ensures.bytes, c.put_at-7.ensures.bytes, c.put_at-6.ensures.bytes, c.put_at-5.ensures.bytes, c.put_at-4.ensures.bytes, c.put_at-3.ensures.bytes, c.put_at-2.ensures.bytes, c.put_at.ensures.bytes) refl

pub returns-clause-back : goal.returns-clause-back
unfolding number_at le
returns-clause-back c =
    let e = c.args.self.now in
    let head = le 4 e.thread_id ++ zeros 4 ++ le 4 e.exception_code ++ le 4 e.exception_flags ++ le 8 e.exception_record ++ le 8 e.exception_address ++ le 4 e.number_parameters ++ zeros 4 in
    let len : length (head ++ les 8 e.exception_information) ≡ 160 = omega (arith, length-append head (les 8 e.exception_information), c.put_at-9.ensures.length) in
    let information = numbers_at-past 40 0 8 15 head (les 8 e.exception_information ++ location_bytes e.thread_context) refl ∙ numbers_at-front 8 15 120 (les 8 e.exception_information) (location_bytes e.thread_context) c.put_at-9.ensures.length refl ∙ c.put_at-9.ensures.back in
    let size = number_at-past 160 0 4 (head ++ les 8 e.exception_information) (location_bytes e.thread_context) len in
    let rva = number_at-past 160 4 4 (head ++ les 8 e.exception_information) (location_bytes e.thread_context) len in
    let back : exception_at (exception_bytes c.args.self.now) 0 ≡ c.args.self.now = λ i. record {
      thread_id = c.put_at.ensures.back i;
      exception_code = c.put_at-3.ensures.back i;
      exception_flags = c.put_at-4.ensures.back i;
      exception_record = c.put_at-5.ensures.back i;
      exception_address = c.put_at-6.ensures.back i;
      number_parameters = c.put_at-7.ensures.back i;
      exception_information = information i;
      thread_context = record { size = (size ∙ ap (λ l. l.size) c.put_at-10.ensures.back) i; rva = (rva ∙ ap (λ l. l.rva) c.put_at-10.ensures.back) i };
    } in
    ap (λ b. exception_at b 0) (returns-clause-bytes c) ∙ back
