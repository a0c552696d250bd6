-- Words that are written one after another, each but the first after a space.
use Rattle.std.proofs.Common.{◌≡◌, ℕ, List, [], ◌∷◌, ◌++◌, map, sym, ap, ◌∙◌, append-nil, append_assoc}
use Rattle.report_text.specs.Lines.{words_text}

abbrev pub after_spaces : {X : Type 0} → (X → List ℕ) → List X → List ℕ
after_spaces word [] = []
after_spaces word (x ∷ xs) = (32 ∷ word x) ++ after_spaces word xs

pub words_text-cons : {X : Type 0} (word : X → List ℕ) (x : X) (xs : List X) →
    words_text (map word (x ∷ xs)) ≡ word x ++ after_spaces word xs
words_text-cons word x [] = sym (append-nil (word x))
words_text-cons word x (y ∷ ys) = ap (λ rest. word x ++ (32 ∷ rest)) (words_text-cons word y ys)

-- the first word is written
pub words-begun : {X : Type 0} (word : X → List ℕ) (x : X) (xs all : List X) (old new : List ℕ) →
    all ≡ x ∷ xs → new ≡ old ++ word x → new ++ after_spaces word xs ≡ old ++ words_text (map word all)
words-begun word x xs all old new is wrote =
    ap (λ front. front ++ after_spaces word xs) wrote
    ∙ append_assoc old (word x) (after_spaces word xs)
    ∙ ap (λ words. old ++ words) (sym (words_text-cons word x xs))
    ∙ ap (λ xs. old ++ words_text (map word xs)) (sym is)
