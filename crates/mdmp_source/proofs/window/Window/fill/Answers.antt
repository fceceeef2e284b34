use Rattle.std.proofs.Common.{◌≡◌, ◌+◌, ◌-◌, ◌≤◌, ◌∙◌, ap, sym, subst, arith, length, max, take, drop, vec_len, vec_capacity}
use Rattle.std.specs.Prelude.{OnErr, Result, Ok, Err}
use Rattle.std.specs.Vec.{with_items}
use Rattle.mdmp_source.specs.Window.{IsFilled, WindowState, next_len_of, touched_after}
use Rattle.mdmp_source.proofs.Held.{is_filled, is_kept, length-held, window_of, written_behind}
use borrow.Rule.Slice.PartMut.{put_mid}
use Rattle.mdmp_source.proofs.window.Window.fill.Goals as goal

on_err : {T E P : Type 0} (result : Result T E) → P → OnErr result P
on_err (Ok x) p = tt
on_err (Err e) p = p

pub returns-in_err-fetch-clause-err : goal.returns-in_err-fetch-clause-err
returns-in_err-fetch-clause-err g c =
    let w = c.self.inside in
    let moved = c.move_to_front in
    let count = c.next_len-count.result in
    let n = w.len + count - w.len in
    let held = take w.len (drop w.first w.buffer.items) in
    let held_len = length-held w.buffer.items w.first w.len (omega (arith, w.buffer.ok.0, c.self.invariant.0)) in
    let next = c.next_len-count.ensures ∙ ap next_len_of (sym c.self.view_is) in
    let long = c.lengthen in
    let kept = long.ensures.kept w.len (omega (arith, moved.ensures.len, c.self.invariant.0)) ∙ moved.ensures.held in
    let fits : w.len + count ≤ vec_len long.new.buffer = omega (arith, long.ensures.len) in
    let written = written_behind long.new.buffer c.deref_mut.result.now c.fetch.new.out held w.len count n
    c.deref_mut.ensures.value (omega arith) c.fetch.auto.out kept fits in
    let room = long.ensures.capacity ∙ moved.ensures.capacity in
    let touched : vec_len long.new.buffer ≡ max (vec_len w.buffer) (length held + next_len_of (window_of w.place w.end (vec_capacity w.buffer) (vec_len w.buffer) held)) =
    rw (← next, held_len) (long.ensures.len ∙ ap (λ n. max n (w.len + count)) moved.ensures.len) in
    on_err c.from_residual.result
    (is_kept w.place w.end (vec_capacity long.new.buffer) (vec_len long.new.buffer) w.len count held c.fetch.new.out _ written
    ∙ ap (λ n. window_of w.place w.end n (vec_len long.new.buffer) held) room
    ∙ ap (λ n. window_of w.place w.end (vec_capacity w.buffer) n held) touched
    ∙ ap touched_after c.self.view_is)

pub returns-clause-filled : goal.returns-clause-filled
returns-clause-filled g c =
    let w = c.self.inside in
    let content = c.args.source.now.store.content in
    let moved = c.move_to_front in
    let count = c.next_len-count.result in
    let n = w.len + count - w.len in
    let held = take w.len (drop w.first w.buffer.items) in
    let held_len = length-held w.buffer.items w.first w.len (omega (arith, w.buffer.ok.0, c.self.invariant.0)) in
    let next = c.next_len-count.ensures ∙ ap next_len_of (sym c.self.view_is) in
    let long = c.lengthen in
    let kept = long.ensures.kept w.len (omega (arith, moved.ensures.len, c.self.invariant.0)) ∙ moved.ensures.held in
    let fits : w.len + count ≤ vec_len long.new.buffer = omega (arith, long.ensures.len) in
    let written = written_behind long.new.buffer c.deref_mut.result.now c.fetch.new.out held w.len count n
    c.deref_mut.ensures.value (omega arith) c.fetch.auto.out kept fits in
    let room = long.ensures.capacity ∙ moved.ensures.capacity in
    let touched : vec_len long.new.buffer ≡ max (vec_len w.buffer) (w.len + count) = long.ensures.len ∙ ap (λ n. max n (w.len + count)) moved.ensures.len in
    let filled = is_filled content w.place w.end (vec_capacity w.buffer) (vec_len w.buffer) w.len count held c.fetch.new.out _ written held_len next c.in_ok-fetch.ensures.bytes in
    let items = (with_items long.new.buffer (put_mid w.len n c.deref_mut.result.now c.fetch.new.out)).items in
    subst (λ (old : WindowState). IsFilled content old (window_of w.place w.end (vec_capacity long.new.buffer) (vec_len long.new.buffer) (take (w.len + count) items))) c.self.view_is
    (subst (λ n. IsFilled content (window_of w.place w.end (vec_capacity w.buffer) (vec_len w.buffer) held) (window_of w.place w.end n (vec_len long.new.buffer) (take (w.len + count) items))) (sym room)
    (subst (λ n. IsFilled content (window_of w.place w.end (vec_capacity w.buffer) (vec_len w.buffer) held) (window_of w.place w.end (vec_capacity w.buffer) n (take (w.len + count) items))) (sym touched) filled))
