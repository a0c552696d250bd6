-- Numbers and runs in words of their own: what is read is so spelled, and it is read again.
use Rattle.std.proofs.Common.{◌≡◌, ℕ, ◌<◌, false, eqb, List, [], ◌∷◌, ◌++◌, length, map, Option, Some, None, refl, ap, ◌∙◌, sym, append-nil, subst, arith}
use Rattle.std.specs.Prelude.{decimal, option_map}
use Rattle.std.specs.Char.{is_ascii_digit}
use Rattle.std.specs.List.{AllByRecursion, join_with_byte}
use Rattle.std.proofs.lemmas.List.{length-map}
use Rattle.std.proofs.lemmas.Option.{option_and_then_some, same_Some}
use Rattle.text_lines.specs.Number.{cut, number_of, one_number, three_numbers, two_numbers}
use Rattle.text_lines.specs.Part.{Lacks, parts_of}
use Rattle.text_lines.specs.RunWord.{IsUncut, count_of, run_of_parts, run_text, run_word, run_word_of, run_words_of, some_run_words, times_text}
use Rattle.text_lines.specs.declared.run_word.RunWord.{RunWord}
use Rattle.text_lines.proofs.Decimals.{decimal_lacks, number_again, number_is}
use Rattle.text_lines.proofs.Joined.{joined_again, lacks_append, part_before, part_whole}

pub option_map_is : {A B : Type 0} (f : A → B) (o : Option A) (y : B) → option_map f o ≡ Some y → (x : A) × (o ≡ Some x) × (f x ≡ y)
option_map_is f None y is = cc
option_map_is f (Some x) y is = (x, refl, same_Some _ _ is)

pub one_is : (a : ℕ) (words : List (List ℕ)) → a < cut → one_number words ≡ Some a → words ≡ decimal a ∷ []
one_is a [] small is = cc
one_is a (word ∷ []) small is = ap (λ w. w ∷ []) (number_is a word small is)
one_is a (word ∷ next ∷ more) small is = cc

pub two_are : (a b : ℕ) (words : List (List ℕ)) → a < cut → b < cut → two_numbers words ≡ Some (a, b) → words ≡ decimal a ∷ decimal b ∷ []
two_are a b [] small fits is = cc
two_are a b (word ∷ words) small fits is =
    option_and_then_some (λ first. option_map (λ second. (first, second)) (one_number words)) (number_of word) (a, b) is
    (λ first is_first others.
    let second = option_map_is (λ second. (first, second)) (one_number words) (a, b) others in
    ap (λ w. w ∷ words) (number_is a word small (is_first ∙ ap (λ (p : ℕ × ℕ). Some p.0) second.2))
    ∙ ap (λ ws. decimal a ∷ ws) (one_is b words fits (second.1 ∙ ap (λ (p : ℕ × ℕ). Some p.1) second.2)))

pub three_are : (a b c : ℕ) (words : List (List ℕ)) → a < cut → b < cut → c < cut → three_numbers words ≡ Some (a, b, c) →
    words ≡ decimal a ∷ decimal b ∷ decimal c ∷ []
three_are a b c [] small fits low is = cc
three_are a b c (word ∷ words) small fits low is =
    option_and_then_some (λ first. option_map (λ others. (first, others.0, others.1)) (two_numbers words)) (number_of word) (a, b, c) is
    (λ first is_first others.
    let two = option_map_is (λ others. (first, others.0, others.1)) (two_numbers words) (a, b, c) others in
    ap (λ w. w ∷ words) (number_is a word small (is_first ∙ ap (λ (p : ℕ × ℕ × ℕ). Some p.0) two.2))
    ∙ ap (λ ws. decimal a ∷ ws) (two_are b c words fits low (two.1 ∙ ap (λ (p : ℕ × ℕ × ℕ). Some (p.1, p.2)) two.2)))

run_is_by : (run : RunWord) (word : List ℕ) (parts : List (List ℕ)) → IsUncut run → parts_of 42 word ≡ parts →
    run_of_parts parts ≡ Some run → word ≡ run_text run
run_is_by run word [] small parted is = cc
run_is_by run word (thread ∷ []) small parted is =
    let alone = option_map_is (λ thread. run_word thread None) (number_of thread) run is in
    joined_again 42 word (thread ∷ []) parted
    ∙ number_is run.thread thread small.0 (alone.1 ∙ ap (λ (r : RunWord). Some r.thread) alone.2)
    ∙ sym (append-nil (decimal run.thread))
    ∙ ap (λ (r : RunWord). decimal run.thread ++ times_text r.times) alone.2
run_is_by run word (thread ∷ times ∷ more) small parted is =
    option_and_then_some (λ thread. option_map (λ times. run_word thread (Some times)) (one_number (times ∷ more))) (number_of thread) run is
    (λ first is_first others.
    let count = option_map_is (λ times. run_word first (Some times)) (one_number (times ∷ more)) run others in
    let fits : count.0 < cut = omega (arith, small.1, ap (λ (r : RunWord). count_of r.times) count.2) in
    joined_again 42 word (thread ∷ times ∷ more) parted
    ∙ ap (λ t. t ++ 42 ∷ join_with_byte 42 (times ∷ more))
    (number_is run.thread thread small.0 (is_first ∙ ap (λ (r : RunWord). Some r.thread) count.2))
    ∙ ap (λ ws. decimal run.thread ++ 42 ∷ join_with_byte 42 ws) (one_is count.0 (times ∷ more) fits count.1)
    ∙ ap (λ (r : RunWord). decimal run.thread ++ times_text r.times) count.2)

pub run_is : (run : RunWord) (word : List ℕ) → IsUncut run → run_word_of word ≡ Some run → word ≡ run_text run
unfolding run_word_of
run_is run word small is = run_is_by run word (parts_of 42 word) small refl is

run_again_by : (thread : ℕ) (times : Option ℕ) → IsUncut (run_word thread times) → run_word_of (run_text (run_word thread times)) ≡ Some (run_word thread times)
unfolding run_word_of
run_again_by thread None small =
    ap (λ text. run_of_parts (parts_of 42 text)) (append-nil (decimal thread))
    ∙ ap run_of_parts (part_whole 42 (decimal thread) (decimal_lacks 42 thread refl small.0))
    ∙ ap (option_map (λ thread. run_word thread None)) (number_again thread small.0)
run_again_by thread (Some times) small =
    ap run_of_parts (part_before 42 (decimal thread) (decimal times) (decimal_lacks 42 thread refl small.0)
    ∙ ap (λ parts. decimal thread ∷ parts) (part_whole 42 (decimal times) (decimal_lacks 42 times refl small.1)))
    ∙ rw (number_again thread small.0, number_again times small.1) refl

pub run_again : (run : RunWord) → IsUncut run → run_word_of (run_text run) ≡ Some run
run_again run small = run_again_by run.thread run.times small

times_lack : (byte : ℕ) (times : Option ℕ) → is_ascii_digit byte ≡ false → eqb 42 byte ≡ false → count_of times < cut → Lacks byte (times_text times)
times_lack byte None other star small = tt
times_lack byte (Some times) other star small = (star, decimal_lacks byte times other small)

pub run_lacks : (byte : ℕ) (run : RunWord) → is_ascii_digit byte ≡ false → eqb 42 byte ≡ false → IsUncut run → Lacks byte (run_text run)
run_lacks byte run other star small =
    lacks_append byte (decimal run.thread) (times_text run.times) (decimal_lacks byte run.thread other small.0)
    (times_lack byte run.times other star small.1)

pub runs_lack : (byte : ℕ) (runs : List RunWord) → is_ascii_digit byte ≡ false → eqb 42 byte ≡ false → AllByRecursion IsUncut runs →
    AllByRecursion (Lacks byte) (map run_text runs)
runs_lack byte [] other star small = tt
runs_lack byte (run ∷ runs) other star small = (run_lacks byte run other star small.0, runs_lack byte runs other star small.1)

pub runs_are : (words : List (List ℕ)) (runs : List RunWord) → AllByRecursion IsUncut runs → run_words_of words ≡ Some runs →
    words ≡ map run_text runs
runs_are [] runs small is = ap (map run_text) (same_Some _ _ is)
runs_are (word ∷ words) runs small is =
    option_and_then_some (λ run. option_map (λ others. run ∷ others) (run_words_of words)) (run_word_of word) runs is
    (λ run is_run is_runs.
    let others = option_map_is (λ others. run ∷ others) (run_words_of words) runs is_runs in
    let uncut : AllByRecursion IsUncut (run ∷ others.0) = subst (AllByRecursion IsUncut) (sym others.2) small in
    ap (λ w. w ∷ words) (run_is run word uncut.0 is_run)
    ∙ ap (λ ws. run_text run ∷ ws) (runs_are words others.0 uncut.1 others.1)
    ∙ ap (map run_text) others.2)

pub some_of : (words : List (List ℕ)) → (words ≡ [] → ⊥) → some_run_words words ≡ run_words_of words
some_of [] some = absurd (some refl)
some_of (word ∷ words) some = refl

pub some_are : (words : List (List ℕ)) (runs : List RunWord) → AllByRecursion IsUncut runs → some_run_words words ≡ Some runs →
    (words ≡ map run_text runs) × (0 < length runs)
some_are [] runs small is = cc
some_are (word ∷ words) runs small is =
    let are = runs_are (word ∷ words) runs small is in
    (are, omega (arith, simp length-map at (ap length are)))

pub runs_again : (runs : List RunWord) → AllByRecursion IsUncut runs → run_words_of (map run_text runs) ≡ Some runs
runs_again [] small = refl
runs_again (run ∷ runs) small = rw (run_again run small.0, runs_again runs small.1) refl
