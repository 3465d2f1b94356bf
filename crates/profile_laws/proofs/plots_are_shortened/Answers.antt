use Rattle.profile_laws.proofs.Plotted.{plots}
use Rattle.profile_laws.proofs.plots_are_shortened.Goals as goal

pub returns : goal.returns
returns c = plots
