-- The line of a bad word, parted where its end is printed.
use Rattle.std.proofs.Common.{◌≡◌, ◌∙◌, ◌++◌, ℕ, List, [], ap, append-nil, append_assoc, refl, sym}
use Rattle.std.specs.Prelude.{Option, Some, None, codes}
use Rattle.mdmp_print.specs.Lines.{error_line}
use Rattle.mdmp_tool.specs.BadWordText.{bad_word_text, expected_text, hint_line, hint_text, meant_type, place_name}
use Rattle.mdmp_tool.specs.Shown.{shown}
use Rattle.mdmp_words.specs.declared.bad_word.WordPlace.{WordPlace}

behind : (p q s e x t : List ℕ) → (p ++ (q ++ (s ++ (e ++ x)))) ++ t ≡ p ++ (q ++ (s ++ (e ++ (x ++ t))))
behind p q s e x t =
    append_assoc p (q ++ (s ++ (e ++ x))) t
    ∙ ap (λ (r : List ℕ). p ++ r) (append_assoc q (s ++ (e ++ x)) t
    ∙ ap (λ (r : List ℕ). q ++ r) (append_assoc s (e ++ x) t
    ∙ ap (λ (r : List ℕ). s ++ r) (append_assoc e x t)))

-- the same line, of which the hint and the line feed are printed last
parted : (a p q s e x h t : List ℕ) → a ++ ((p ++ (q ++ (s ++ (e ++ (x ++ h))))) ++ t) ≡ (a ++ (p ++ (q ++ (s ++ (e ++ x))))) ++ (h ++ t)
parted a p q s e x h t =
    ap (λ (r : List ℕ). a ++ r) (behind p q s e (x ++ h) t
    ∙ ap (λ (r : List ℕ). p ++ (q ++ (s ++ (e ++ r)))) (append_assoc x h t)
    ∙ sym (behind p q s e x (h ++ t)))
    ∙ sym (append_assoc a (p ++ (q ++ (s ++ (e ++ x)))) (h ++ t))

-- the hint and the line feed, as the end of a line
hint_end : (hint : Option (List ℕ)) → (hint_text hint ++ []) ++ codes "\n" ≡ hint_line hint
hint_end None = refl
hint_end (Some name) =
    ap (λ (r : List ℕ). codes "; did you mean " ++ (r ++ codes "\n")) (append-nil (name ++ codes "?"))
    ∙ ap (λ (r : List ℕ). codes "; did you mean " ++ r) (append_assoc name (codes "?") (codes "\n"))

-- what is printed of the line before the hint, of a word that is told so
abbrev pub before_hint : WordPlace → List ℕ → List ℕ
before_hint place told =
    codes "mdmp: bad command line: " ++ (place_name place ++ (codes " '" ++ (told ++ (codes "': expected " ++ (expected_text place ++ [])))))

pub in_two : (place : WordPlace) (word : List ℕ) → error_line (bad_word_text place word) ≡ before_hint place (shown word) ++ hint_line (meant_type place word)
in_two place word =
    let expected = expected_text place in
    let hint = hint_text (meant_type place word) in
    let a = codes "mdmp: bad command line: " in
    let front = codes " '" in
    let end = codes "': expected " in
    ap (λ (x : List ℕ). a ++ ((place_name place ++ (front ++ (shown word ++ (end ++ (x ++ (hint ++ [])))))) ++ codes "\n")) (sym (append-nil expected))
    ∙ parted a (place_name place) front (shown word) end (expected ++ []) (hint ++ []) (codes "\n")
    ∙ ap (λ (r : List ℕ). before_hint place (shown word) ++ r) (hint_end (meant_type place word))
