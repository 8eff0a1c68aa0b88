-- Runs of zero bytes.
-- Assumes nothing.
use Rattle.std.specs.Prelude.{ℕ, List, replicate}

-- n zero bytes
abbrev pub zeros : ℕ → List ℕ
zeros n = replicate n 0
