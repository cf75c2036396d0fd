-- A rule that deals an amount out, one share after another.
use Rattle.std.specs.Prelude.{◌≡◌, ℕ, ◌+◌, ◌≤◌, List}

-- the sharer at place k got its share of the amount, and the next one may come
pub record Dealt (share_at : ℕ → List ℕ → ℕ → ℕ) (Ready : ℕ → List ℕ → ℕ → Type 0) (amount : ℕ) (ws : List ℕ) (k share : ℕ) : Type 0 where
  pub is : share ≡ share_at amount ws k
  pub small : share ≤ amount + 1
  pub next : Ready amount ws (k + 1)
