-- What the desk has done so far, and how each answer counts.
use Rattle.std.specs.Prelude.{ℕ, ◌+◌, ◌-◌, ◌^◌, min, List, ℤ, pos, ◌+ℤ◌}
use Rattle.std.specs.Int.{saturate_to_bits}
use Rattle.sharing.specs.Laws.{sum_ℤ}
use Rattle.settle.specs.declared.tally.Tally.{Tally}

abbrev pub nothing_done : Tally
nothing_done = record { shared = 0; refused = 0; unread = 0; totals = pos 0; shares = pos 0; blocks = 0; amounts = pos 0 }

-- a count stays at the largest number of 64 bits, a sum at the largest in size of 128
abbrev pub one_more : ℕ → ℕ
one_more n = min (n + 1) (2 ^ 64 - 1)

abbrev pub with_shares : Tally → ℤ → List ℤ → Tally
with_shares t total shares = record {
  shared = one_more t.shared;
  refused = t.refused;
  unread = t.unread;
  totals = saturate_to_bits 127 (t.totals +ℤ total);
  shares = saturate_to_bits 127 (t.shares +ℤ sum_ℤ shares);
  blocks = t.blocks;
  amounts = t.amounts;
}

abbrev pub with_block : Tally → List ℤ → Tally
with_block t amounts = record {
  shared = t.shared;
  refused = t.refused;
  unread = t.unread;
  totals = t.totals;
  shares = t.shares;
  blocks = one_more t.blocks;
  amounts = saturate_to_bits 127 (t.amounts +ℤ sum_ℤ amounts);
}

abbrev pub with_refusal : Tally → Tally
with_refusal t = record { shared = t.shared; refused = one_more t.refused; unread = t.unread; totals = t.totals; shares = t.shares; blocks = t.blocks; amounts = t.amounts }

abbrev pub with_unread : Tally → Tally
with_unread t = record { shared = t.shared; refused = t.refused; unread = one_more t.unread; totals = t.totals; shares = t.shares; blocks = t.blocks; amounts = t.amounts }
