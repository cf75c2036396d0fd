use Rattle.std.proofs.Common.{◌≡◌, ℕ, List, append_assoc, refl, ◌∙◌, string_bytes}
use Rattle.std.proofs.lemmas.Result.{IfOk-weaker}
use Rattle.settle.proofs.answer.tally_text.Goals as goal

pub returns : goal.returns
returns c = IfOk-weaker c.format.result _ _ (λ s h. let k : ◌≡◌ {A = List ℕ} (string_bytes s) _ = h in k ∙ simp append_assoc refl) c.format.ensures.ok
