use Rattle.px_jobs.proofs.Once.{each_once}
use Rattle.px_jobs.proofs.laws.each_job_once.Goals as goal

pub returns : goal.returns
returns g c given taken x all at = each_once given taken x all at
