use Rattle.bisync_text.proofs.Quoting.{quoted-apart, quoted-injective}
use Rattle.bisync_text.proofs.quotes.quoted_texts_are_apart.Goals as goal

pub returns-clause-injective : goal.returns-clause-injective
returns-clause-injective c = quoted-injective

pub returns-clause-prefix_free : goal.returns-clause-prefix_free
returns-clause-prefix_free c = quoted-apart
