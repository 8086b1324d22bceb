use Rattle.laws_promises.proofs.Headers.{headers_keep}
use Rattle.laws_promises.proofs.headers_keep_their_promises.Goals as goal

pub returns : goal.returns
returns c = headers_keep
