-- When an opening would open a link.
use Rattle.std.specs.Prelude.{ℕ, Bool, ◌&&◌, ltb}

-- by a probe's offers standing, its spare and its untried links: an opening would open a link
abbrev pub may_open : ℕ → ℕ → ℕ → Bool
may_open standing spare untried = ltb standing spare && ltb 0 untried
