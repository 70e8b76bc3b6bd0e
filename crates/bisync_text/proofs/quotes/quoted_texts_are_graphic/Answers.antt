use Rattle.bisync_text.proofs.Quoting.{quoted-graphic}
use Rattle.bisync_text.proofs.quotes.quoted_texts_are_graphic.Goals as goal

pub returns : goal.returns
returns c = quoted-graphic
