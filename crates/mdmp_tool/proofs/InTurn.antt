-- Summaries that were printed, and one more.
use Rattle.std.proofs.Common.{◌≡◌, ◌∙◌, ◌+◌, ◌<◌, ap, arith, refl, sym, subst, ℕ, List, [], ◌∷◌, ◌++◌, Bor, get_or, length, map, take}
use Rattle.std.proofs.lemmas.List.{map_push, take_more}
use Rattle.std.specs.Prelude.{max}
use Rattle.mdmp_disk.specs.Disk.{DiskState}
use Rattle.mdmp_lister.specs.declared.limits.Limits.{Limits}
use Rattle.mdmp_print.specs.declared.form.LineForm.{LineForm}
use Rattle.mdmp_tool.specs.Words.{EndsFileSummary, EndsSummaries, Outputs}

max-front : (a : ℕ) → max 0 a ≡ max a 0
max-front a = omega arith

max-assoc : (a b c : ℕ) → max (max a b) c ≡ max a (max b c)
max-assoc a b c = omega arith

module _ (form : LineForm) (limits : Limits) where
  -- what is done of one file
  abbrev pub EndsOne : List ℕ → DiskState → DiskState → Outputs → ℕ → Outputs → Type 0
  EndsOne file old new = EndsFileSummary form limits file (record { old = old; new = new })

  -- what is done of some files
  abbrev pub EndsSome : List (List ℕ) → DiskState → DiskState → Outputs → ℕ → Outputs → Type 0
  EndsSome files old new = EndsSummaries form limits files (record { old = old; new = new })

  -- one more behind those that were done
  pub one_more : (files : List (List ℕ)) (file : List ℕ) (old between new : DiskState) (before written after : Outputs) (worst status : ℕ)
      → EndsSome files old between before worst written → EndsOne file between new written status after
      → EndsSome (files ++ file ∷ []) old new before (max worst status) after
  one_more [] file old between new before written after worst status idle one = record {
    between = new;
    written = after;
    first_status = status;
    second_status = 0;
    first = subst (λ (d : DiskState). EndsOne file d new before status after) idle.same_disk
        (subst (λ (o : Outputs). EndsOne file between new o status after) idle.quiet one);
    second = record { zero = refl; same_disk = refl; quiet = refl };
    worst = ap (λ (n : ℕ). max n status) idle.zero ∙ max-front status;
  }
  one_more (first ∷ files) file old between new before written after worst status done one = record {
    between = done.between;
    written = done.written;
    first_status = done.first_status;
    second_status = max done.second_status status;
    first = done.first;
    second = one_more files file done.between between new done.written written after done.second_status status done.second one;
    worst = ap (λ (n : ℕ). max n status) done.worst ∙ max-assoc done.first_status done.second_status status;
  }

  -- the same of the first of some names
  pub next_file : (files : List (Bor (List ℕ))) (i : ℕ) (d : Bor (List ℕ)) → i < length files → (old between new : DiskState) (before written after : Outputs) (worst status : ℕ)
      → EndsSome (map (λ file. file.now) (take i files)) old between before worst written → EndsOne (get_or files i d).now between new written status after
      → EndsSome (map (λ file. file.now) (take (i + 1) files)) old new before (max worst status) after
  next_file files i d inside old between new before written after worst status done one =
      let file = get_or files i d in
      let name : Bor (List ℕ) → List ℕ = λ f. f.now in
      let names : map name (take (i + 1) files) ≡ map name (take i files) ++ file.now ∷ [] = ap (map name) (take_more files i d inside) ∙ map_push name (take i files) file in
      subst (λ (given : List (List ℕ)). EndsSome given old new before (max worst status) after) (sym names)
      (one_more (map name (take i files)) file.now old between new before written after worst status done one)
