use Rattle.std.proofs.Common.{◌≡◌, refl, sym, ap, ◌∙◌, arith}
use Rattle.std.proofs.lemmas.List.{take_all}
use Rattle.mdmp_wire.specs.Number.{number_at, le}
use Rattle.mdmp_wire.specs.Version.{version_at, version_bytes}
use Rattle.mdmp_wire.proofs.version.VersionInfoRecord.write.Goals as goal

pub returns-clause-bytes : goal.returns-clause-bytes
returns-clause-bytes c =
    sym (take_all 52 c.put_at-13.new.out (omega arith)) ∙ rw (c.put_at-13.ensures.bytes, c.put_at-12.ensures.bytes, c.put_at-11.ensures.bytes, c.put_at-10.ensures.bytes, c.put_at-9.ensures.bytes, c.put_at-8.ensures.bytes, c.put_at-7.ensures.bytes, c.put_at-6.ensures.bytes, c.put_at-5.ensures.bytes, c.put_at-4.ensures.bytes, c.put_at-3.ensures.bytes, c.put_at-2.ensures.bytes, c.put_at.ensures.bytes) refl

pub returns-clause-back : goal.returns-clause-back
unfolding number_at le
returns-clause-back c =
    let back : version_at (version_bytes c.args.self.now) 0 ≡ c.args.self.now = λ i. record {
      signature = c.put_at.ensures.back i;
      structure_version = c.put_at-2.ensures.back i;
      file_version_ms = c.put_at-3.ensures.back i;
      file_version_ls = c.put_at-4.ensures.back i;
      product_version_ms = c.put_at-5.ensures.back i;
      product_version_ls = c.put_at-6.ensures.back i;
      file_flags_mask = c.put_at-7.ensures.back i;
      file_flags = c.put_at-8.ensures.back i;
      file_os = c.put_at-9.ensures.back i;
      file_type = c.put_at-10.ensures.back i;
      file_subtype = c.put_at-11.ensures.back i;
      file_date_ms = c.put_at-12.ensures.back i;
      file_date_ls = c.put_at-13.ensures.back i;
    } in
    ap (λ b. version_at b 0) (returns-clause-bytes c) ∙ back
