use Rattle.std.proofs.Common.{◌≡◌, ◌∙◌, ◌≤◌, ◌-◌, ℕ, ap, length, arith, refl, sym}
use Rattle.mdmp_dump.proofs.Budget.{array_is, Fetches-none, inside_is, none-bytes, taken-all, take-refused, take-taken, untaken}
use Rattle.mdmp_dump.proofs.ItemsRead.{parts_one, parts_unread}
use Rattle.mdmp_dump.proofs.Keeping.{keeps_none, keeps_taken, keeps_till}
use Rattle.mdmp_dump.specs.Refusal.{first_refusal}
use Rattle.mdmp_dump.proofs.Taking.{FetchesSome_none, Fetches_only, Takes_memory}
use Rattle.mdmp_dump.proofs.reader.Reader.bytes.Goals as goal

pub returns-then-size-self-clause-takes : goal.returns-then-size-self-clause-takes
returns-then-size-self-clause-takes g c = record {
  same = refl;
  fetches = Fetches-none _ c.args.self.now.lister.source refl tt;
  settles = λ rest last own. take-refused c.args.self.now.left c.args.place.entry c.args.place.index c.args.at c.args.size rest last c.if-size-self.true;
  parts = parts_unread _ c.args.self.now.lister;
  of_steps = λ is. is;
  keeps = keeps_till c.args.self.now c.args.self.now _ tt tt (keeps_none c.args.self.now);
}

pub returns-then-size-eq0-clause-takes : goal.returns-then-size-eq0-clause-takes
returns-then-size-eq0-clause-takes g c =
    let left = c.args.self.now.left in
    let none : left - c.args.size ≡ left = omega (arith, c.if-size-eq0.true) in
    record {
      same = refl;
      fetches = Fetches_only _ c.args.self.now.lister.source _ (FetchesSome_none c.args.self.now.lister.source);
      settles = λ rest last.
          take-taken left c.args.place.entry c.args.place.index c.args.at c.args.size rest last (omega (arith, c.if-size-self.false))
          ∙ ap (λ (n : ℕ). first_refusal n 0 rest last) none;
      parts = parts_unread _ c.args.self.now.lister;
      of_steps = tt;
      keeps = keeps_none c.args.self.now;
    }

pub returns-then-size-eq0-clause-of_file : goal.returns-then-size-eq0-clause-of_file
returns-then-size-eq0-clause-of_file g c = λ file known.
    none-bytes file c.args.at c.args.size _ c.if-size-eq0.true (c.new-then-size-eq0.ensures ∙ c.new.ensures.items)

pub returns-clause-takes : goal.returns-clause-takes
returns-clause-takes g c =
    let reads = c.in-Ok-read_part.ensures.reads in
    let len : length c.read_part.new.out ≡ c.args.size = omega (arith, c.deref_mut.ensures.len, c.in-Ok.ensures.len) in
    let fits : c.args.size ≤ c.args.self.now.left = omega (arith, c.if-size-self.false) in
    record {
      same = reads.same;
      fetches = Fetches_only _ c.args.self.now.lister.source _ (record { count = _; fetches = reads.fetches });
      settles = λ rest last. take-taken c.args.self.now.left c.args.place.entry c.args.place.index c.args.at c.args.size rest last fits;
      parts = parts_one _ _ _ c.args.size c.args.self.now.lister _ reads.same (rw len at reads.aside) (rw len at reads.fetches);
      of_steps = tt;
      keeps = keeps_taken c.args.self.now _ c.args.size reads.same (rw len at reads.aside) reads.fetches fits (omega (arith, fits));
    }

pub returns-in-Err-clause-takes : goal.returns-in-Err-clause-takes
returns-in-Err-clause-takes g c = Takes_memory _ c.args.self.now

pub returns-in-Err-read_part-clause-takes : goal.returns-in-Err-read_part-clause-takes
returns-in-Err-read_part-clause-takes g c =
    let reads = c.in-Err-read_part.ensures.reads in
    let fault = c.in-Err-read_part.fault in
    let len : length c.read_part.new.out ≡ c.args.size = omega (arith, c.deref_mut.ensures.len, c.in-Ok.ensures.len) in
    let fits : c.args.size ≤ c.args.self.now.left = omega (arith, c.if-size-self.false) in
    untaken c.args.self.now _ c.args.place.entry c.args.place.index c.args.at c.args.size fault reads.same (rw len at reads.aside) (rw len at reads.fetches) fits (omega (arith, c.if-size-eq0.false)) (rw len at c.in-Err-read_part.ensures.told)
    (λ file good. let no = reads.good file good in cc)

pub returns-clause-of_file : goal.returns-clause-of_file
returns-clause-of_file g c = λ file known.
    let len : length c.read_part.new.out ≡ c.args.size = omega (arith, c.deref_mut.ensures.len, c.in-Ok.ensures.len) in
    let same = c.in-Ok-read_part.ensures.bytes file known in
    let all = taken-all c.read_part.new.out c.in-Ok.bytes.items c.in-Ok.bytes.len (omega (arith, len, c.in-Ok.ensures.len)) in
    record {
      len = rw (c.new-2.ensures, all) len;
      inside = inside_is file c.args.at c.args.size _ c.requires.inside (rw known at c.requires.sized);
      same = array_is file c.args.at c.args.size ∙ sym (rw len at same) ∙ sym (c.new-2.ensures ∙ all);
    }
