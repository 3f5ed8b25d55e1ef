use Rattle.px_afa.proofs.Told as told
use Rattle.px_afa.proofs.laws.labels_and_classes_tell.Goals as goal

pub returns : goal.returns
returns c = record { told = told.told }
