-- The value of a tag that is borrowed from its bytes.
use Rattle.git_header.specs.Lent.{message_of}
use Rattle.git_header.specs.Left.{headers_left}
use Rattle.git_object.specs.declared.tag.Tag.{Tag}
use Rattle.git_object.specs.Tag.{TagValue}
use Rattle.git_object.specs.View.{tagger_of}

abbrev pub tag_of : Tag → TagValue
tag_of tag = record {
  object = tag.object;
  kind = tag.kind;
  name = tag.name.now;
  tagger = tagger_of tag.tagger;
  headers = headers_left tag.headers;
  message = message_of tag.message;
}
