use Rattle.px_pool.proofs.Sharing.{draws_sync, doc_sync}
use Rattle.px_pool.proofs.batches.threads_may_share_documents.Goals as goal

pub returns-clause-draws : goal.returns-clause-draws
returns-clause-draws c = draws_sync

pub returns-clause-docs : goal.returns-clause-docs
returns-clause-docs c = doc_sync
