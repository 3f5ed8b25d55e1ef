use Rattle.px_post.proofs.Moving.{put_one}
use Rattle.px_post.proofs.pushing.put_at.Goals as goal

pub returns : goal.returns
returns g c = record { put = put_one c.put_next.result c.args.slips.now.items c.args.number c.args.waiting c.index_mut-slip.result.now c.put_next.new.self c.index_mut-slip.ensures.value c.put_next.ensures.put }
