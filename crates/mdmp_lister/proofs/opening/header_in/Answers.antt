use Rattle.std.proofs.Common.{◌≡◌, ◌∙◌, ◌*◌, true, false, ap, sym, rules}
use Rattle.mdmp_wire.specs.HeaderFault.{header_fault_of}
use Rattle.mdmp_source.specs.Range.{is_inside}
use Rattle.mdmp_lister.proofs.Refusals.{header_at-fetched, directory_refusal-fetched, directory_refusal-inside, directory_refusal-outside}
use Rattle.mdmp_lister.proofs.opening.header_in.Goals as goal

pub returns-in-Err-BadSignature : goal.returns-in-Err-BadSignature
returns-in-Err-BadSignature c = record {
  finds = λ file len fetched. directory_refusal-fetched file c.args.bytes.now c.args.size _ len c.requires.room c.requires.whole fetched (rw c.in-Err-BadSignature.field-0-is at c.in-Err-BadSignature.ensures);
  inside = search rules;
  refusal = search rules;
  long = λ told same. cc;
  read = search rules;
  checked = tt;
  obtained = tt;
}

pub returns-in-Err-BadVersion : goal.returns-in-Err-BadVersion
returns-in-Err-BadVersion c = record {
  finds = λ file len fetched. directory_refusal-fetched file c.args.bytes.now c.args.size _ len c.requires.room c.requires.whole fetched (rw c.in-Err-BadVersion.field-0-is at c.in-Err-BadVersion.ensures);
  inside = search rules;
  refusal = search rules;
  long = λ told same. cc;
  read = search rules;
  checked = tt;
  obtained = tt;
}

pub returns-then-not-inside : goal.returns-then-not-inside
returns-then-not-inside c =
    let h = c.in-Ok.header in
    let outside : is_inside h.stream_directory_rva (12 * h.number_of_streams) c.args.size ≡ false = (rw (c.from-offset.ensures, c.from.ensures) at (sym c.inside.ensures.value)) ∙ search rules in
    record {
      finds = λ file len fetched.
          rw (c.from-offset.ensures, c.from.ensures)
          (directory_refusal-outside file c.args.bytes.now h c.args.size len c.requires.room c.requires.whole fetched c.in-Ok.ensures.0 c.in-Ok.ensures.1.fields outside);
      inside = search rules;
      refusal = rw (c.from-offset.ensures, c.from.ensures) outside;
      long = λ told same. cc;
      read = search rules;
      checked = tt;
      obtained = tt;
    }

pub returns : goal.returns
returns c =
    let h = c.in-Ok.header in
    let inside : is_inside h.stream_directory_rva (12 * h.number_of_streams) c.args.size ≡ true = (rw (c.from-offset.ensures, c.from.ensures) at (sym c.inside.ensures.value)) ∙ search rules in
    record {
      finds = λ file len fetched. (
        directory_refusal-inside file c.args.bytes.now h c.args.size len c.requires.room c.requires.whole fetched c.in-Ok.ensures.0 c.in-Ok.ensures.1.fields inside,
        c.in-Ok.ensures.1.fields ∙ header_at-fetched file c.args.bytes.now c.requires.whole fetched,
      );
      inside = search rules;
      refusal = search rules;
      long = λ told same. cc;
      read = search rules;
      obtained = tt;
      checked = ap header_fault_of c.in-Ok.ensures.1.fields ∙ c.in-Ok.ensures.0;
    }
