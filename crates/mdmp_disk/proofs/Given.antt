-- The first file of a name, found one by one.
use Rattle.std.proofs.Common.{◌≡◌, ◌∙◌, ◌+◌, ◌<◌, ◌≤◌, ℕ, List, true, false, ap, refl, drop, length, slice_index_or}
use Rattle.std.proofs.lemmas.List.{drop_more}
use Rattle.std.proofs.Math.ListN.{drop_of_length-le}
use Rattle.std.specs.Str.{bytes_eq}
use Rattle.mdmp_disk.specs.Disk.{absent}
use Rattle.mdmp_disk.specs.Memory.{given_at, given_file}
use Rattle.mdmp_disk.specs.declared.memory_disk.GivenFile.{GivenFile}

module _ (files : List GivenFile) (name : List ℕ) (k : ℕ) (d : GivenFile) where
  pub here : k < length files → bytes_eq (slice_index_or files k d).name.now name ≡ true → given_at (drop k files) name ≡ given_file (slice_index_or files k d)
  unfolding given_at
  here fewer is = ap (λ (fs : List GivenFile). given_at fs name) (drop_more files k d fewer) ∙ (rw is refl)

  pub later : k < length files → bytes_eq (slice_index_or files k d).name.now name ≡ false → given_at (drop k files) name ≡ given_at (drop (k + 1) files) name
  unfolding given_at
  later fewer is = ap (λ (fs : List GivenFile). given_at fs name) (drop_more files k d fewer) ∙ (rw is refl)

pub none_left : (files : List GivenFile) (name : List ℕ) (k : ℕ) → length files ≤ k → given_at (drop k files) name ≡ absent
unfolding given_at
none_left files name k past = ap (λ (fs : List GivenFile). given_at fs name) (drop_of_length-le files past)
