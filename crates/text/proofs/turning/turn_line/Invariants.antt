-- `turning::turn_line` meets its contract. The loop's invariant: the first i bytes are turned.
-- Assumes nothing.
use Rattle.std.proofs.Common.{◌≡◌, ℕ, ◌<◌, length, get_or}
use Rattle.text.proofs.turning.turn_line.Given as goal

abbrev pub invariant-loop-i : goal.invariant-loop-i
invariant-loop-i g l =
    (length l.turned ≡ length l.initial.turned)
    × ((f : ℕ → ℕ) → ((c x : ℕ) → goal.F-post g l.fn.by c x → x ≡ f c) → (k : ℕ) → k < l.i → get_or l.turned k 0 ≡ f (get_or l.line k 0))
