-- The words behind a program's name, put together one by one.
use Rattle.std.proofs.Common.{◌≡◌, ◌∙◌, ◌+◌, ◌++◌, ◌<◌, ◌≤◌, ℕ, List, [], ◌∷◌, Bor, ap, drop, length, map, subst, sym}
use Rattle.std.specs.Prelude.{Result, Ok, Err, IfErr, IfOk, get_or}
use Rattle.std.specs.declared.io.ErrorKind.{ErrorKind}
use Rattle.std.specs.declared.string.String.{String}
use Rattle.std.proofs.lemmas.List.{append-nil, append_assoc, drop_more, map_push}
use Rattle.std.proofs.Math.ListN.{drop_of_length-le}
use Rattle.mdmp_disk.specs.declared.disk.Requests.{Requests}
use Rattle.mdmp_disk.specs.Disk.{DiskState}
use Rattle.mdmp_disk.specs.System.{no_requests, system}
use Rattle.mdmp_tool.specs.Program.{EndsGiven, EndsSomehow, EndsUnread}
use Rattle.mdmp_tool.specs.Words.{Outputs}

module _ {Z : Type 0} (args : List (String Z)) (words : List (Bor (List ℕ))) (k : ℕ) where
  -- those that were put together, and the arguments from number k on
  abbrev pub texts : List (List ℕ)
  texts = map (λ word. word.now) words ++ map (λ arg. arg.bytes.items) (drop k args)

  pub texts_next : (word : Bor (List ℕ)) (d : String Z) → k < length args → word.now ≡ (get_or args k d).bytes.items
      → texts ≡ map (λ word. word.now) (words ++ word ∷ []) ++ map (λ arg. arg.bytes.items) (drop (k + 1) args)
  texts_next word d inside is =
      let rest : List (List ℕ) = map (λ arg. arg.bytes.items) (drop (k + 1) args) in
      let first : List (List ℕ) = map (λ word. word.now) words in
      ap (λ (xs : List (String Z)). first ++ map (λ arg. arg.bytes.items) xs) (drop_more args k d inside)
      ∙ ap (λ (text : List ℕ). first ++ text ∷ rest) (sym is)
      ∙ sym (append_assoc first (word.now ∷ []) rest)
      ∙ ap (λ (xs : List (List ℕ)). xs ++ rest) (sym (map_push (λ (w : Bor (List ℕ)). w.now) words word))

  pub texts_done : length args ≤ k → texts ≡ map (λ word. word.now) words
  texts_done past =
      ap (λ (xs : List (String Z)). map (λ word. word.now) words ++ map (λ arg. arg.bytes.items) xs) (drop_of_length-le args past)
      ∙ append-nil (map (λ word. word.now) words)

-- ---- arguments that the system has

-- what is said of arguments that were read, or not, is said of some
pub somehow : {X Y : Type 0} (Z : Type 0) (args : Result X Y) (texts_of : X → List (List ℕ)) (kind_of : Y → ErrorKind) (requests : Requests) (old : DiskState) → old ≡ system no_requests
    → (before after : Outputs) (status : ℕ) → IfOk args (λ given. EndsGiven Z (texts_of given) (record { old = old; new = system requests }) before status after)
    → IfErr args (λ error. (system requests ≡ old) × EndsUnread (kind_of error) before status after) → EndsSomehow Z before status after
somehow Z (Ok x) texts_of kind_of requests old is before after status given unread =
    EndsSomehow.given (texts_of x) requests (subst (λ (s : DiskState). EndsGiven Z (texts_of x) (record { old = s; new = system requests }) before status after) is given)
somehow Z (Err e) texts_of kind_of requests old is before after status given unread = EndsSomehow.unread (kind_of e) unread.1
