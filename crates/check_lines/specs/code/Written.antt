-- For contracts. Messages of the code.
use Rattle.check_lines.specs.declared.message.Message as message_type
use Rattle.check_lines.specs.declared.message.Message.TheVariants as message
use Rattle.check_lines.specs.declared.message.Said as said_type
use Rattle.check_lines.specs.declared.message.Said.TheVariants as said
use Rattle.check_lines.specs.Messages.{Message, nothing, found, instead, Said, words, with, with_both}

-- what a text of the code says
abbrev pub said_of : said_type.Said → Said
said_of (said.Words text) = words text.now
said_of (said.With text part) = with text.now part
said_of (said.WithBoth text first second) = with_both text.now first second

-- what a message of the code says
abbrev pub message_of : message_type.Message → Message
message_of message.Nothing = nothing
message_of (message.Found f) = found (said_of f)
message_of (message.Instead f e) = instead (said_of f) (said_of e)
