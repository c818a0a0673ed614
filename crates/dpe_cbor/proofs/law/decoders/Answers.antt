use Rattle.dpe_cbor.proofs.DecoderLemmas.{argument_decoder, content_decoder, text_decoder, bool_decoder, key_decoder}
use Rattle.dpe_cbor.proofs.law.decoders.Goals as goal

pub returns-clause-uint : goal.returns-clause-uint
returns-clause-uint c = argument_decoder 0

pub returns-clause-bytes : goal.returns-clause-bytes
returns-clause-bytes c = content_decoder 2

pub returns-clause-text : goal.returns-clause-text
returns-clause-text c = text_decoder

pub returns-clause-bool : goal.returns-clause-bool
returns-clause-bool c = bool_decoder

pub returns-clause-array : goal.returns-clause-array
returns-clause-array c = argument_decoder 4

pub returns-clause-map : goal.returns-clause-map
returns-clause-map c = argument_decoder 5

pub returns-clause-key : goal.returns-clause-key
returns-clause-key c = key_decoder
