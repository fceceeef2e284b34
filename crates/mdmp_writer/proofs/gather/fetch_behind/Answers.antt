use Rattle.std.proofs.Common.{◌≡◌, ◌≤◌, ◌∙◌, ◌+◌, ◌-◌, ◌++◌, ℕ, List, [], length, take, drop, get_or, arith, ap, length-take, length-drop}
use Rattle.std.proofs.lemmas.List.{take_all}
use Rattle.mdmp_source.proofs.Bytes.{take-put_mid_more}
use Rattle.mdmp_dump.specs.ShapeLaws.{last_told}
use Rattle.mdmp_writer.proofs.Sending.{on_ok}
use Rattle.mdmp_writer.proofs.gather.fetch_behind.Goals as goal
use borrow.Rule.Slice.PartMut.{put_mid}

-- bytes written behind the first `held`
written : (buffer out bytes : List ℕ) (held m count : ℕ) → m ≡ count → held + count ≤ length buffer → length out ≡ length (take m (drop held buffer))
    → out ≡ take (length (take m (drop held buffer))) bytes → take (held + count) (put_mid held m buffer out) ≡ take held buffer ++ take count bytes
written buffer out bytes held m count same room len gave =
    let whole : length (take m (drop held buffer)) ≡ count = omega (arith, length-take m (drop held buffer), length-drop held buffer) in
    let given : take count out ≡ take count bytes = take_all count out (omega arith) ∙ gave ∙ ap (λ (n : ℕ). take n bytes) whole in
    take-put_mid_more buffer out held m count (omega arith) (omega arith) ∙ ap (λ (x : List ℕ). take held buffer ++ x) given

pub returns-clause-gives : goal.returns-clause-gives
returns-clause-gives g c =
    on_ok c.part.result (λ stays gave. (
      stays,
      λ ps known.
          written c.args.buffer.now c.part.new.out (drop c.args.at (get_or ps c.args.which [])) c.args.held (c.args.held + c.args.count - c.args.held) c.args.count
          (omega arith) c.requires.room c.part.auto.out (gave ps known),
    ))
    c.part.ensures.cursor c.part.ensures.bytes

pub returns-clause-told : goal.returns-clause-told
returns-clause-told g c = last_told _ _ c.part.result c.part.ensures.told
