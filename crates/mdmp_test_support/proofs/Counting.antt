-- `admits` and `takes_back` at a call: what each is handed, and what a caller has of it. Assumes `Logic`.
use Rattle.std.proofs.Common.{◌≡◌, ℕ, ◌<◌, ◌^◌, List, [], ◌∷◌, Bool, refl, ap, w64}
use seplogic.Ra.Ura.{Ura}
use mir.Val.{Val, vunit, vbool, vint, vptr}
use base.Logic.{SProp, ent, ex, sep, guard, id⊢}
use base.Fml.{Lft, Share, ftrue, fsep, flft}
use prog.Memory.{Memory}
use prog.Routine.{Routine}
use types.Logic.{Logic, sem}
use contract.Monad.{Fun}
use types.Kit.{‵, ◌⊛◌, some, later, ◌$◌, ◌∵◌, !, qed, move, keep, use1, split, join, pick, fjoin, feq_i, feq_l, flt_i, check, show, await, updating, now as at_once, done}
use denote.RattleType.{RattleType}
use denote.Memory.{hidden_shr}
use denote.Builtin.{bool, unit}
use denote.Steps.{nothing, only}
use denote.Triple.Statement.{Contract}
use denote.Triple.Spec.{triple_of}
use Rattle.std.specs.contracts.cell.Cell as CE
use Rattle.mdmp_test_support.specs.contracts.metered_heap.Metering as ME
use Rattle.mdmp_test_support.specs.contracts.metered_heap.admits as AD
use Rattle.mdmp_test_support.specs.contracts.metered_heap.takes_back as TB

abbrev Counted : RattleType
Counted = CE.the_row ME.the_row

module _ {M : Type 1} {𝓤 : Ura M} (𝓛 : Logic 𝓤) (at_mem : Memory → SProp 𝓤) (run : Routine → Fun 𝓤) where
  abbrev pub Admits : Contract 𝓤
  Admits = triple_of 𝓛 AD.signature (AD.spec 𝓛 at_mem run)

  abbrev pub at_admits : Lft → Share → ℕ × ℕ → ℕ → Admits.Ghost
  at_admits κ q c s = (((κ, tt), (q, tt), tt, (record { ref_ptr = c; now = record { value = tt } }, (s, tt)), (vptr c.0 c.1 ∷ [], (vint w64 s ∷ [], tt))), tt)

  abbrev pub Returned : Contract 𝓤
  Returned = triple_of 𝓛 TB.signature (TB.spec 𝓛 at_mem run)

  abbrev pub at_returned : Lft → Share → ℕ × ℕ → ℕ → Returned.Ghost
  at_returned κ q c s = (((κ, tt), (q, tt), tt, (record { ref_ptr = c; now = record { value = tt } }, (s, tt)), (vptr c.0 c.1 ∷ [], (vint w64 s ∷ [], tt))), tt)

module _ {M : Type 1} {𝓤 : Ura M} (𝓛 : Logic 𝓤) (at_mem : Memory → SProp 𝓤) (run : Routine → Fun 𝓤) (κ : Lft) (q : Share) (c : ℕ × ℕ) where
  open 𝓛 use {H, A}

  pub Admits-goes : (s : ℕ) → s < 2 ^ 64 → ent 𝓤 (sep 𝓤 (sem 𝓛 (hidden_shr Counted κ (record { value = tt }) c.0 c.1)) (A.lft κ q)) ((Admits 𝓛 at_mem run).pre (at_admits 𝓛 at_mem run κ q c s))
  Admits-goes s fs =
      qed 𝓛 (‵ (hidden_shr Counted κ (record { value = tt }) c.0 c.1) ∷ ‵ (flft κ q) ∷ []) ∵
      nothing ! $ flt_i ! s (2 ^ 64) fs $ feq_i ! (List Val) (vint w64 s ∷ []) (vint w64 s ∷ []) refl $ fjoin ! $ fjoin ! $
      move ! (1 ∷ []) $ feq_i ! (List Val) (vptr c.0 c.1 ∷ []) (vptr c.0 c.1 ∷ []) refl $ fjoin ! $ fjoin ! $
      nothing ! $ move ! (2 ∷ []) $ join ! $ join ! $ nothing ! $ move ! (1 ∷ []) $ done !

  pub Admits-gives : (s : ℕ) (v : Val) → ent 𝓤 ((Admits 𝓛 at_mem run).post (at_admits 𝓛 at_mem run κ q c s) v) (H.⇛ (ex 𝓤 (λ (r : Bool). guard 𝓤 (v ≡ vbool r) (A.lft κ q))))
  Admits-gives s v =
      qed 𝓛 (types.Kit.raw ((Admits 𝓛 at_mem run).post (at_admits 𝓛 at_mem run κ q c s) v) ∷ []) ∵ updating ! $
      use1 𝓛 (later (some (λ (r : Bool). ((‵ (flft κ q) ⊛ ‵ ftrue) ⊛ ‵ (bool.own_val r (v ∷ []))) ⊛ some (λ (ws : Unit {0} × (Unit {0} × Unit {0})). ‵ (fsep ftrue (fsep ftrue ftrue)) ⊛ ‵ ftrue)))) (id⊢ 𝓤 _) $ await ! tt $ pick ! (λ r.
      split ! $ split ! $ move ! (1 ∷ []) $ feq_l ! (λ e. split ! $ at_once ! $ show ! (λ (b : Bool). guard 𝓤 (v ≡ vbool b) (A.lft κ q)) r $ check ! (ap only e) $ keep ! (0 ∷ []) $ done !))

  pub Returned-goes : (s : ℕ) → s < 2 ^ 64 → ent 𝓤 (sep 𝓤 (sem 𝓛 (hidden_shr Counted κ (record { value = tt }) c.0 c.1)) (A.lft κ q)) ((Returned 𝓛 at_mem run).pre (at_returned 𝓛 at_mem run κ q c s))
  Returned-goes s fs =
      qed 𝓛 (‵ (hidden_shr Counted κ (record { value = tt }) c.0 c.1) ∷ ‵ (flft κ q) ∷ []) ∵
      nothing ! $ flt_i ! s (2 ^ 64) fs $ feq_i ! (List Val) (vint w64 s ∷ []) (vint w64 s ∷ []) refl $ fjoin ! $ fjoin ! $
      move ! (1 ∷ []) $ feq_i ! (List Val) (vptr c.0 c.1 ∷ []) (vptr c.0 c.1 ∷ []) refl $ fjoin ! $ fjoin ! $
      nothing ! $ move ! (2 ∷ []) $ join ! $ join ! $ nothing ! $ move ! (1 ∷ []) $ done !

  pub Returned-gives : (s : ℕ) (v : Val) → ent 𝓤 ((Returned 𝓛 at_mem run).post (at_returned 𝓛 at_mem run κ q c s) v) (H.⇛ (guard 𝓤 (v ≡ vunit) (A.lft κ q)))
  Returned-gives s v =
      qed 𝓛 (types.Kit.raw ((Returned 𝓛 at_mem run).post (at_returned 𝓛 at_mem run κ q c s) v) ∷ []) ∵ updating ! $
      use1 𝓛 (later (some (λ (r : Unit {0}). ((‵ (flft κ q) ⊛ ‵ ftrue) ⊛ ‵ (unit.own_val r (v ∷ []))) ⊛ some (λ (ws : Unit {0} × (Unit {0} × Unit {0})). ‵ (fsep ftrue (fsep ftrue ftrue)) ⊛ ‵ ftrue)))) (id⊢ 𝓤 _) $ await ! tt $ pick ! (λ r.
      split ! $ split ! $ move ! (1 ∷ []) $ feq_l ! (λ e. split ! $ at_once ! $ check ! (ap only e) $ keep ! (0 ∷ []) $ done !))
