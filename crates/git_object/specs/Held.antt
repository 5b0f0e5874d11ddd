-- The value of an object that is borrowed from its bytes.
use Rattle.git_object.specs.declared.object.Object.{Object}
use Rattle.git_object.specs.Form.{value_of}
use Rattle.git_object.specs.Object.{ObjectValue}

abbrev pub object_of : Object → ObjectValue
object_of object = value_of object.form
