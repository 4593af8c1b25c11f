use Rattle.loader.proofs.LegalLoads.{start_is, legal_if_none, none_if_legal, none_parts}
use Rattle.loader.proofs.laws.loads_what_is_legal.Goals as goal

pub returns : goal.returns
returns c = λ m raw qubits bits few kinds items. (
  λ none. let parts = none_parts m raw none in legal_if_none m raw qubits bits few kinds items (start_is m raw.qubits raw.chains parts.0) parts.1,
  λ legal. none_if_legal m raw legal,
)
