use Rattle.std.proofs.Common.{◌≡◌, length, take, rules}
use Rattle.bisync_work.proofs.DigestFileLaws.{digest_in_front, digest_in_file}
use Rattle.bisync_work.proofs.digest_files.stored_digest.Goals as goal

pub returns-in-Some-clause-found : goal.returns-in-Some-clause-found
returns-in-Some-clause-found g c t =
    let front = rw c.in-Some.is at (c.in_ok-count.ensures.front t) in
    let room : length c.read_front.new.buffer ≡ 34 = search rules in
    digest_in_front (length c.read_front.new.buffer) (take c.in-Some.count c.read_front.new.buffer) front.0 _ room front.1 front.2 c.read_digest.result c.read_digest.ensures.found (c.read_digest.ensures.form.0)

pub returns-in-Some-clause-exact : goal.returns-in-Some-clause-exact
returns-in-Some-clause-exact g c t digest is holds =
    let front = rw c.in-Some.is at (c.in_ok-count.ensures.front t) in
    let room : length c.read_front.new.buffer ≡ 34 = search rules in
    c.read_digest.ensures.exact digest is (digest_in_file (length c.read_front.new.buffer) (take c.in-Some.count c.read_front.new.buffer) front.0 _ room front.1 front.2 digest is holds)
