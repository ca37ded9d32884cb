-- What the program prints, for all that its input has.
-- Assumes nothing.
use Rattle.std.proofs.Common.{◌≡◌, ℕ, ◌<◌, ◌≤◌, List, [], ◌++◌, Ok, Err, Some, None, length, take, sym, ap, subst, ◌∙◌, append-nil, take_all, take_at, arith}
use Rattle.std.proofs.Math.Decide.{dec_lt}
use Rattle.std.proofs.Math.Logic.{dite}
use Rattle.std.proofs.lemmas.List.{length-take-le}
use Rattle.std.specs.Prelude.{OnOk, IfSome}
use Rattle.std.specs.Io.KnownBytes.{Appends, Consumes, IsAtEnd}
use Rattle.std.specs.declared.option.Option.{Option}
use Rattle.std.specs.declared.result.Result.{Result}

-- what stands in the buffer is what the input has, or what the buffer takes of it
first_bytes : (long got : ℕ) (buffer bytes rest : List ℕ) → length buffer ≡ long → got ≤ length buffer → bytes ≡ take got buffer ++ rest
    → (got < length buffer → rest ≡ []) → take got buffer ≡ take long bytes
first_bytes long got buffer bytes rest full within e none =
    let front = take got buffer in
    let size : length front ≡ got = length-take-le got buffer within in
    dite (dec_lt got long)
    (λ less.
    let all : bytes ≡ front = e ∙ ap (λ (l : List ℕ). front ++ l) (none (omega arith)) ∙ append-nil front in
    sym (ap (take long) all ∙ take_all long front (omega arith)))
    (λ not.
    sym (ap (take long) e ∙ take_at front rest long (omega arith)))

pub whole_input : {T E : Type 0} (write : List ℕ → List ℕ) (r : Result T E) (old new before after : Option (List ℕ)) (long got : ℕ) (buffer : List ℕ)
    → length buffer ≡ long → got ≤ length buffer → Consumes old new (take got buffer) → OnOk r (got < length buffer → IsAtEnd new)
    → Appends before after (write (take got buffer))
    → OnOk r (IfSome old (λ bytes. Appends before after (write (take long bytes))))
whole_input write (Err e) old new before after long got buffer full within took end said = tt
whole_input write (Ok x) None new before after long got buffer full within took end said = tt
whole_input write (Ok x) (Some bytes) None before after long got buffer full within took end said = absurd took
whole_input write (Ok x) (Some bytes) (Some rest) before after long got buffer full within took end said =
    subst (λ (l : List ℕ). Appends before after (write l)) (first_bytes long got buffer bytes rest full within took end) said
