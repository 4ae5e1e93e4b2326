mod WhatIsRead
