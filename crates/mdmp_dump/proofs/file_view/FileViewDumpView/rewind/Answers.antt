use Rattle.std.proofs.Common.{◌≡◌, ◌∙◌, ◌<◌, ◌+◌, ◌-◌, ◌^◌, ℕ, get_or, ap, refl, subst, sym, arith, Ok, Err}
use Rattle.std.proofs.lemmas.List.{get_or_read}
use Rattle.mdmp_wire.specs.declared.entry.Entry.{Entry}
use Rattle.mdmp_dump.specs.declared.pass.Pass.{Pass}
use Rattle.mdmp_dump.specs.EntryWalk.{Pays, WalkState, chosen_entry, listed, pass_cost}
use Rattle.mdmp_dump.specs.FileView.{TellsViewFault, first_pass, opening_cost, pass_cursor}
use Rattle.mdmp_dump.specs.Shape.{IsChangeAt}
use Rattle.mdmp_dump.proofs.KnownViews.{cost_told, inside_view, pass_begins, place_told}
use Rattle.mdmp_dump.proofs.Moving.{moves_err, moves_quiet, reliable_err, shape_stays, uncut_before, view_begun, view_unbegun}
use Rattle.mdmp_dump.proofs.file_view.FileViewDumpView.rewind.Goals as goal

pub index-count-requires : goal.index-count-requires
index-count-requires g c =
    let s = c.args.self.now in
    let w = s.walk in
    let k = c.args.stream in
    let inside = inside_view g.row.A.Denot s.limit w s.counts.items s.rooms.items s.sound.counted s.sound.roomed s.sound.of_file k c.requires in
    omega (arith, inside, s.sound.counted)

pub index-room-requires : goal.index-room-requires
index-room-requires g c =
    let s = c.args.self.now in
    let w = s.walk in
    let k = c.args.stream in
    let inside = inside_view g.row.A.Denot s.limit w s.counts.items s.rooms.items s.sound.counted s.sound.roomed s.sound.of_file k c.requires in
    omega (arith, inside, s.sound.roomed)

pub entry-requires : goal.entry-requires
entry-requires g c =
    let s = c.args.self.now in
    let w = s.walk in
    let k = c.args.stream in
    let inside = inside_view g.row.A.Denot s.limit w s.counts.items s.rooms.items s.sound.counted s.sound.roomed s.sound.of_file k c.requires in
    inside

pub begin_pass-requires-clause-within : goal.begin_pass-requires-clause-within
begin_pass-requires-clause-within g c =
    let s = c.args.self.now in
    let w = s.walk in
    let k = c.args.stream in
    let inside = inside_view g.row.A.Denot s.limit w s.counts.items s.rooms.items s.sound.counted s.sound.roomed s.sound.of_file k c.requires in
    rw c.entry.ensures.same inside

pub begin_pass-requires-clause-counted : goal.begin_pass-requires-clause-counted
begin_pass-requires-clause-counted g c =
    let s = c.args.self.now in
    let w = s.walk in
    let k = c.args.stream in
    let inside = inside_view g.row.A.Denot s.limit w s.counts.items s.rooms.items s.sound.counted s.sound.roomed s.sound.of_file k c.requires in
    let count : c.index-count.result.now ≡ get_or s.counts.items k 0 = get_or_read s.counts.items _ _ (omega (arith, inside, s.sound.counted)) c.index-count.ensures 0 in
    rw c.entry.ensures.same (λ F known. (s.sound.of_file F known).counted k inside ∙ ap (λ m. Ok m) (sym count))

pub invariant_of-self : goal.invariant_of-self
invariant_of-self g c =
    let s = c.args.self.now in
    let w = s.walk in
    let k = c.args.stream in
    let inside = inside_view g.row.A.Denot s.limit w s.counts.items s.rooms.items s.sound.counted s.sound.roomed s.sound.of_file k c.requires in
    let v = c.begin_pass.new.walk in
    let n = c.index-count.result.now in
    let r = c.index-room.result.now in
    let count : n ≡ get_or s.counts.items k 0 = get_or_read s.counts.items _ _ (omega (arith, inside, s.sound.counted)) c.index-count.ensures 0 in
    let room : r ≡ get_or s.rooms.items k 0 = get_or_read s.rooms.items _ _ (omega (arith, inside, s.sound.roomed)) c.index-room.ensures 0 in
    let cost : c.from.result ≡ pass_cost (chosen_entry w k).entry n = c.from.ensures ∙ c.cost_of-cost.ensures ∙ ap (λ (e : Entry). pass_cost e n) c.entry.ensures.value in
    let sum_is : opening_cost w s.counts.items + c.saturating_add-self.result + s.asked < 2 ^ 128 - 1 → c.saturating_add-self.result ≡ s.passed + pass_cost (chosen_entry w k).entry n = λ low. uncut_before s.passed c.from.result c.saturating_add-self.result (opening_cost w s.counts.items) s.asked c.saturating_add-self.ensures low ∙ ap (λ m. s.passed + m) cost in
    let pays = subst (λ (u : WalkState). Pays (listed (chosen_entry u k).entry) 0 u v) c.entry.ensures.same c.in-Ok.ensures.pays in
    let tells = subst (λ (u : WalkState). TellsViewFault u (Ok c.in-Ok.pass) v) c.entry.ensures.same c.in-Ok.ensures.tells in
    let first = c.in-Ok.ensures.begins.1 ∙ ap (λ (u : WalkState). first_pass u k n r) c.entry.ensures.same in
    record { sound = view_begun g.row.A.Denot s.limit w s.counts.items s.rooms.items s.pass s.passed s.asked s.last s.sound v pays.same k n r _ inside count room pays sum_is c.in-Ok.pass first c.in-Ok.ensures.begins.0 tells }

pub invariant_of-self-in-Err : goal.invariant_of-self-in-Err
invariant_of-self-in-Err g c =
    let s = c.args.self.now in
    let w = s.walk in
    let k = c.args.stream in
    let inside = inside_view g.row.A.Denot s.limit w s.counts.items s.rooms.items s.sound.counted s.sound.roomed s.sound.of_file k c.requires in
    let v = c.begin_pass.new.walk in
    let n = c.index-count.result.now in
    let r = c.index-room.result.now in
    let count : n ≡ get_or s.counts.items k 0 = get_or_read s.counts.items _ _ (omega (arith, inside, s.sound.counted)) c.index-count.ensures 0 in
    let room : r ≡ get_or s.rooms.items k 0 = get_or_read s.rooms.items _ _ (omega (arith, inside, s.sound.roomed)) c.index-room.ensures 0 in
    let cost : c.from.result ≡ pass_cost (chosen_entry w k).entry n = c.from.ensures ∙ c.cost_of-cost.ensures ∙ ap (λ (e : Entry). pass_cost e n) c.entry.ensures.value in
    let sum_is : opening_cost w s.counts.items + c.saturating_add-self.result + s.asked < 2 ^ 128 - 1 → c.saturating_add-self.result ≡ s.passed + pass_cost (chosen_entry w k).entry n = λ low. uncut_before s.passed c.from.result c.saturating_add-self.result (opening_cost w s.counts.items) s.asked c.saturating_add-self.ensures low ∙ ap (λ m. s.passed + m) cost in
    let pays = subst (λ (u : WalkState). Pays (listed (chosen_entry u k).entry) 0 u v) c.entry.ensures.same c.in-Err.ensures.pays in
    let tells = subst (λ (u : WalkState). TellsViewFault {T = Pass} u (Err c.in-Err.fault) v) c.entry.ensures.same c.in-Err.ensures.tells in
    record { sound = view_unbegun g.row.A.Denot s.limit w s.counts.items s.rooms.items s.pass s.passed s.asked s.last s.sound v pays.same k n r _ inside count room pays sum_is c.in-Err.fault tells }

pub returns-in-Ok-clause-begins : goal.returns-in-Ok-clause-begins
returns-in-Ok-clause-begins g c =
    let s = c.args.self.now in
    let w = s.walk in
    let k = c.args.stream in
    let inside = inside_view g.row.A.Denot s.limit w s.counts.items s.rooms.items s.sound.counted s.sound.roomed s.sound.of_file k c.requires in
    let v = c.begin_pass.new.walk in
    let n = c.index-count.result.now in
    let r = c.index-room.result.now in
    let count : n ≡ get_or s.counts.items k 0 = get_or_read s.counts.items _ _ (omega (arith, inside, s.sound.counted)) c.index-count.ensures 0 in
    let room : r ≡ get_or s.rooms.items k 0 = get_or_read s.rooms.items _ _ (omega (arith, inside, s.sound.roomed)) c.index-room.ensures 0 in
    let pays = subst (λ (u : WalkState). Pays (listed (chosen_entry u k).entry) 0 u v) c.entry.ensures.same c.in-Ok.ensures.pays in
    let first = c.in-Ok.ensures.begins.1 ∙ ap (λ (u : WalkState). first_pass u k n r) c.entry.ensures.same in
    ap (pass_cursor g.row.A.Denot v) first
    ∙ pass_begins g.row.A.Denot s.limit w s.counts.items s.rooms.items s.sound.counted s.sound.roomed s.sound.of_file k inside v n r pays.same.fetches.fetches.same_content pays.same.chosen pays.same.choice count room

pub returns-in-Ok-clause-passed : goal.returns-in-Ok-clause-passed
returns-in-Ok-clause-passed g c =
    let s = c.args.self.now in
    let w = s.walk in
    let k = c.args.stream in
    let inside = inside_view g.row.A.Denot s.limit w s.counts.items s.rooms.items s.sound.counted s.sound.roomed s.sound.of_file k c.requires in
    let n = c.index-count.result.now in
    let count : n ≡ get_or s.counts.items k 0 = get_or_read s.counts.items _ _ (omega (arith, inside, s.sound.counted)) c.index-count.ensures 0 in
    let cost : c.from.result ≡ pass_cost (chosen_entry w k).entry n = c.from.ensures ∙ c.cost_of-cost.ensures ∙ ap (λ (e : Entry). pass_cost e n) c.entry.ensures.value in
    let told = cost_told g.row.A.Denot s.limit w s.counts.items s.rooms.items s.sound.counted s.sound.roomed s.sound.of_file k inside ∙ ap (λ m. pass_cost (chosen_entry w k).entry m) (sym count) in
    omega (arith, told, cost, c.saturating_add-self.ensures)

pub returns-in-Err-clause-passed : goal.returns-in-Err-clause-passed
returns-in-Err-clause-passed g c =
    let s = c.args.self.now in
    let w = s.walk in
    let k = c.args.stream in
    let inside = inside_view g.row.A.Denot s.limit w s.counts.items s.rooms.items s.sound.counted s.sound.roomed s.sound.of_file k c.requires in
    let n = c.index-count.result.now in
    let count : n ≡ get_or s.counts.items k 0 = get_or_read s.counts.items _ _ (omega (arith, inside, s.sound.counted)) c.index-count.ensures 0 in
    let cost : c.from.result ≡ pass_cost (chosen_entry w k).entry n = c.from.ensures ∙ c.cost_of-cost.ensures ∙ ap (λ (e : Entry). pass_cost e n) c.entry.ensures.value in
    let told = cost_told g.row.A.Denot s.limit w s.counts.items s.rooms.items s.sound.counted s.sound.roomed s.sound.of_file k inside ∙ ap (λ m. pass_cost (chosen_entry w k).entry m) (sym count) in
    omega (arith, told, cost, c.saturating_add-self.ensures)

pub returns-in-Err-clause-reliable : goal.returns-in-Err-clause-reliable
returns-in-Err-clause-reliable g c =
    let s = c.args.self.now in
    let w = s.walk in
    let k = c.args.stream in
    let v = c.begin_pass.new.walk in
    let pays = subst (λ (u : WalkState). Pays (listed (chosen_entry u k).entry) 0 u v) c.entry.ensures.same c.in-Err.ensures.pays in
    let tells = subst (λ (u : WalkState). TellsViewFault {T = Pass} u (Err c.in-Err.fault) v) c.entry.ensures.same c.in-Err.ensures.tells in
    λ reliable. reliable_err g.row.A.Denot s.limit w s.counts.items s.rooms.items s.pass s.passed s.asked s.last s.sound v pays.same c.in-Err.fault tells reliable

pub returns-in-Err-clause-told : goal.returns-in-Err-clause-told
returns-in-Err-clause-told g c =
    let s = c.args.self.now in
    let w = s.walk in
    let k = c.args.stream in
    let inside = inside_view g.row.A.Denot s.limit w s.counts.items s.rooms.items s.sound.counted s.sound.roomed s.sound.of_file k c.requires in
    let stands = place_told g.row.A.Denot s.limit w s.counts.items s.rooms.items s.sound.counted s.sound.roomed s.sound.of_file k inside in
    let at = ap (λ (u : WalkState). (chosen_entry u k).entry.location.rva) c.entry.ensures.same ∙ stands in
    record { last = refl; place = subst (λ (n : ℕ). IsChangeAt n c.in-Err.fault) at c.in-Err.ensures.place }

pub returns-in-Ok-clause-shape : goal.returns-in-Ok-clause-shape
returns-in-Ok-clause-shape g c =
    let s = c.args.self.now in
    let w = s.walk in
    let k = c.args.stream in
    let v = c.begin_pass.new.walk in
    let pays = subst (λ (u : WalkState). Pays (listed (chosen_entry u k).entry) 0 u v) c.entry.ensures.same c.in-Ok.ensures.pays in
    shape_stays w v pays.same g.row.A.Denot s.counts.items s.rooms.items

pub returns-in-Ok-clause-moves : goal.returns-in-Ok-clause-moves
returns-in-Ok-clause-moves g c =
    let s = c.args.self.now in
    let w = s.walk in
    let k = c.args.stream in
    let v = c.begin_pass.new.walk in
    let pays = subst (λ (u : WalkState). Pays (listed (chosen_entry u k).entry) 0 u v) c.entry.ensures.same c.in-Ok.ensures.pays in
    moves_quiet w v pays.same s.last

pub returns-in-Err-clause-shape : goal.returns-in-Err-clause-shape
returns-in-Err-clause-shape g c =
    let s = c.args.self.now in
    let w = s.walk in
    let k = c.args.stream in
    let v = c.begin_pass.new.walk in
    let pays = subst (λ (u : WalkState). Pays (listed (chosen_entry u k).entry) 0 u v) c.entry.ensures.same c.in-Err.ensures.pays in
    shape_stays w v pays.same g.row.A.Denot s.counts.items s.rooms.items

pub returns-in-Err-clause-moves : goal.returns-in-Err-clause-moves
returns-in-Err-clause-moves g c =
    let s = c.args.self.now in
    let w = s.walk in
    let k = c.args.stream in
    let v = c.begin_pass.new.walk in
    let pays = subst (λ (u : WalkState). Pays (listed (chosen_entry u k).entry) 0 u v) c.entry.ensures.same c.in-Err.ensures.pays in
    let tells = subst (λ (u : WalkState). TellsViewFault {T = Pass} u (Err c.in-Err.fault) v) c.entry.ensures.same c.in-Err.ensures.tells in
    moves_err g.row.A.Denot s.limit w s.counts.items s.rooms.items s.pass s.passed s.asked s.last s.sound v pays.same c.in-Err.fault tells
