use Rattle.std.proofs.Common.{◌≡◌, ◌≤◌, ◌<◌, ◌-◌, ◌/◌, ◌%◌, ℕ, zero, suc, length, take, set, List, ◌++◌, ◌∷◌, [], ap, sym, ◌∙◌, arith, append_assoc, length-set, add-one}
use Rattle.std.proofs.Math.Seq.{take-suc-set}
use Rattle.std.proofs.lemmas.List.{append-nil, take_all}
use Rattle.machine_model.specs.Memory.{bytes_of}
use Rattle.concrete_machine.proofs.memory.spell.Goals as goal

-- one more byte is written
spelled-on : (all bytes : List ℕ) (at rest left more : ℕ) → at < length bytes → left ≡ suc more →
    all ≡ take at bytes ++ bytes_of left rest →
    all ≡ take (suc at) (set bytes at (rest % 256)) ++ bytes_of more (rest / 256)
unfolding bytes_of
spelled-on all bytes at rest left more within one is =
    is ∙ ap (λ n. take at bytes ++ bytes_of n rest) one
    ∙ sym (append_assoc (take at bytes) (rest % 256 ∷ []) (bytes_of more (rest / 256)))
    ∙ ap (λ front. front ++ bytes_of more (rest / 256)) (sym (take-suc-set bytes at (rest % 256) within))

-- all bytes are written
spelled-whole : (all bytes : List ℕ) (at rest left : ℕ) → length bytes ≤ at → left ≡ zero →
    all ≡ take at bytes ++ bytes_of left rest → bytes ≡ all
unfolding bytes_of
spelled-whole all bytes at rest left within none is =
    sym (is ∙ ap (λ n. take at bytes ++ bytes_of n rest) none ∙ append-nil (take at bytes) ∙ take_all at bytes within)

pub loop-byte-preserved : goal.loop-byte-preserved
loop-byte-preserved c =
    let i = c.loop-byte.byte-index in
    let spelled = c.loop-byte.rest % 256 in
    let long : length (set c.loop-byte.bytes i spelled) ≡ length c.loop-byte.bytes = length-set c.loop-byte.bytes i spelled in
    let next = spelled-on (bytes_of (length c.loop-byte.bytes) c.args.number) c.loop-byte.bytes i c.loop-byte.rest
    (length c.loop-byte.bytes - i) (length c.loop-byte.bytes - suc i) (omega arith) (omega arith) c.loop-byte.invariant in
    rw (long, add-one) next

pub returns : goal.returns
returns c =
    spelled-whole _ c.loop-byte.bytes c.loop-byte.byte-index c.loop-byte.rest (length c.loop-byte.bytes - c.loop-byte.byte-index)
    (omega arith) (omega arith) c.loop-byte.invariant
    ∙ ap (λ n. bytes_of n c.args.number) c.loop-byte.auto.bytes
