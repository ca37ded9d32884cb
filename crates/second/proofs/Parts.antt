-- What a stream holds after a part of a text.
-- Assumes nothing.
use Rattle.std.proofs.Common.{◌≡◌, ℕ, ◌+◌, ◌-◌, ◌≤◌, List, ◌++◌, length, take, drop, None, Some, sym, ap, subst, ◌∙◌, append_assoc, length-append, arith}
use Rattle.std.proofs.Math.Seq.{take-add, take-append-add}
use Rattle.std.proofs.lemmas.List.{take_rest, take-append-le}
use Rattle.std.specs.Io.KnownBytes.{Appends, Keeps}
use Rattle.std.specs.declared.option.Option.{Option}
use Rattle.second.specs.Working.Tallies.{AppendsPart}

-- bytes are appended, and then more
pub appends_more : (a b c : Option (List ℕ)) (s t : List ℕ) → Appends a b s → Appends b c t → Appends a c (s ++ t)
appends_more None b c s t p q = tt
appends_more (Some x) None c s t p q = absurd p
appends_more (Some x) (Some y) None s t p q = absurd q
appends_more (Some x) (Some y) (Some z) s t p q = q ∙ ap (λ (l : List ℕ). l ++ t) p ∙ append_assoc x s t

-- bytes are appended, and then none
pub appends_kept : (a b c : Option (List ℕ)) (s : List ℕ) → Appends a b s → Keeps b c → Appends a c s
appends_kept None b c s p q = tt
appends_kept (Some x) None c s p q = absurd p
appends_kept (Some x) (Some y) None s p q = absurd q
appends_kept (Some x) (Some y) (Some z) s p q = q ∙ p

-- after the first bytes, n of the others are written
pub front_more : (bytes : List ℕ) (at n : ℕ) (a b c : Option (List ℕ)) → Appends a b (take at bytes) → Appends b c (take n (take (length bytes - at) (drop at bytes)))
    → Appends a c (take (at + n) bytes)
front_more bytes at n a b c p q =
    let joined : take at bytes ++ take n (take (length bytes - at) (drop at bytes)) ≡ take (at + n) bytes =
    ap (λ (l : List ℕ). take at bytes ++ take n l) (take_rest bytes at) ∙ sym (take-add at n bytes) in
    subst (λ (l : List ℕ). Appends a c l) joined (appends_more a b c _ _ p q)

-- after the front of a text, a part of what comes next in it is written
pub part_after : (front next rest : List ℕ) {text : List ℕ} (a b c : Option (List ℕ)) → text ≡ (front ++ next) ++ rest → Appends a b front → AppendsPart b c next
    → AppendsPart a c text
part_after front next rest {text} a b c e p q =
    let k = q.0 in
    let inside : k ≤ length next = q.1 in
    let whole : text ≡ front ++ (next ++ rest) = e ∙ append_assoc front next rest in
    let part : front ++ take k next ≡ take (length front + k) text =
    ap (λ (l : List ℕ). front ++ l) (sym (take-append-le k next rest inside))
    ∙ sym (take-append-add front (next ++ rest) k)
    ∙ ap (λ (l : List ℕ). take (length front + k) l) (sym whole) in (
      length front + k,
      omega (arith, ap length whole, length-append front (next ++ rest), length-append next rest),
      subst (λ (l : List ℕ). Appends a c l) part (appends_more a b c _ _ p q.2),
    )
