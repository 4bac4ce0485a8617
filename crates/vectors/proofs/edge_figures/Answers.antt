use Rattle.std.proofs.Common.{refl}
use Rattle.vectors.proofs.EdgeFigures.{edge-figures}
use Rattle.vectors.proofs.edge_figures.Goals as goal

pub returns : goal.returns
returns c = record { figures = edge-figures; count = refl }
